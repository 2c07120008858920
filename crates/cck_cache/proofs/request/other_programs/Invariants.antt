use Rattle.std.proofs.Common.{◌≡◌, map}
use Rattle.std.specs.Prelude.{flat_map, string_bytes}
use Rattle.cck_cache.specs.Request.{other_program}
use Rattle.cck_cache.proofs.request.other_programs.Given as goal

-- the other programs so far
abbrev pub invariant-loop-program : goal.invariant-loop-program
invariant-loop-program l = string_bytes l.others ≡ flat_map other_program (map (λ p. p.now) l.yielded)
