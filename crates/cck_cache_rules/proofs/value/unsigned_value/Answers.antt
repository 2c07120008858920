use Rattle.std.proofs.Common.{inl, inr, refl}
use Rattle.cck_cache_rules.proofs.value.unsigned_value.Goals as goal

pub returns-in-Some : goal.returns-in-Some
returns-in-Some c = inl (c.in-Some.field-0-0.now, c.in-Some.ensures.0, c.in-Some.ensures.1)

pub returns-in-None : goal.returns-in-None
returns-in-None c = inr (refl, c.in-None.ensures)
