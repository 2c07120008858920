use Rattle.std.proofs.Common.{map}
use Rattle.cck_cache_files.specs.Compiler.{IsProgramLine}
use Rattle.cck_cache_files.proofs.CompilerLemmas.{IsFedLines}
use Rattle.cck_cache_files.proofs.compiler.programs_digest.Given as goal

-- the lines of the programs so far were fed
abbrev pub invariant-loop-path : goal.invariant-loop-path
invariant-loop-path g l = IsFedLines g.H.HashState.holds (IsProgramLine g.H.HashState.hash l.part) (map (λ p. p.now) l.yielded) l.digest
