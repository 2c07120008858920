use Rattle.std.proofs.Common.{◌≡◌, length}
use Rattle.cck_cache_text.specs.DependencyPragma.{from_comment}
use Rattle.cck_cache_text.proofs.dependency_pragma.from_comment.Given as goal

-- the first comment of the line begins in what is left
abbrev pub invariant-loop-rest : goal.invariant-loop-rest
invariant-loop-rest l = from_comment l.rest ≡ from_comment l.line

abbrev pub decreases-loop-rest : goal.decreases-loop-rest
decreases-loop-rest l = length l.rest
