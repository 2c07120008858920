use Rattle.std.proofs.Common.{◌≡◌, ◌-◌}
use Rattle.cck_explain_listing.specs.Fault.{after_includes}
use Rattle.cck_explain_listing.proofs.fault.skip_includes.Given as goal

-- what is after all is what is after those that are left
abbrev pub invariant-loop : goal.invariant-loop
invariant-loop l = after_includes (l.count - l.counter) l.rest ≡ after_includes l.count l.bytes
