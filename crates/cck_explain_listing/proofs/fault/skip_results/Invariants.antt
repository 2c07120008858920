use Rattle.std.proofs.Common.{◌≡◌, ◌-◌, None}
use Rattle.std.specs.Prelude.{option_map}
use Rattle.cck_explain_listing.specs.Fault.{after_results}
use Rattle.cck_explain_listing.proofs.fault.skip_results.Given as goal

-- what is after all is what is after those that are left
abbrev pub invariant-loop : goal.invariant-loop
invariant-loop l = after_results (option_map (λ k. k.now) l.previous) (l.count - l.counter) l.rest ≡ after_results None l.count l.bytes
