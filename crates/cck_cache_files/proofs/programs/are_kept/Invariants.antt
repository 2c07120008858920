use Rattle.std.proofs.Common.{◌≡◌, map, string_bytes}
use Rattle.cck_cache_files.specs.Programs.{IsKeptLine}
use Rattle.cck_cache_files.proofs.CompilerLemmas.{IsFedLines}
use Rattle.cck_cache_files.proofs.programs.are_kept.Given as goal

-- the lines of the paths so far are there
abbrev pub invariant-loop-path : goal.invariant-loop-path
invariant-loop-path g l = IsFedLines (λ held text. held ≡ text) IsKeptLine (map (λ p. p.now) l.yielded) (string_bytes l.lines)
