use Rattle.std.proofs.Common.{◌≡◌, ◌-◌}
use Rattle.std.specs.Option.{option_map}
use Rattle.cck_entry.specs.Reading.{includes_at}
use Rattle.cck_entry.proofs.reading.skip_includes.Given as goal

abbrev pub invariant-loop : goal.invariant-loop
invariant-loop l = option_map (λ x. x.1) (includes_at (l.count - l.counter) l.rest) ≡ option_map (λ x. x.1) (includes_at l.count l.bytes)
