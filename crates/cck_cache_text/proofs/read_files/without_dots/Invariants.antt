use Rattle.std.proofs.Common.{◌≡◌, length}
use Rattle.cck_cache_text.specs.ReadFiles.{without_dots}
use Rattle.cck_cache_text.proofs.read_files.without_dots.Given as goal

-- what is left has no other name without its dots
abbrev pub invariant-loop-rest : goal.invariant-loop-rest
invariant-loop-rest l = without_dots l.rest ≡ without_dots l.name

abbrev pub decreases-loop-rest : goal.decreases-loop-rest
decreases-loop-rest l = length l.rest
