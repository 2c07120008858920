use Rattle.std.proofs.Common.{◌≡◌, length}
use Rattle.cck_cache_text.specs.DependencyPragma.{has_dependency_word}
use Rattle.cck_cache_text.proofs.dependency_pragma.has_dependency_word.Given as goal

-- the line has such a word if what is left has one
abbrev pub invariant-loop-rest : goal.invariant-loop-rest
invariant-loop-rest l = has_dependency_word l.is_named l.rest ≡ has_dependency_word l.is_named l.line

abbrev pub decreases-loop-rest : goal.decreases-loop-rest
decreases-loop-rest l = length l.rest
