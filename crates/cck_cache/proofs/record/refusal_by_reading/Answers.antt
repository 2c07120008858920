use Rattle.cck_cache.proofs.record.refusal_by_reading.Goals as goal

pub returns : goal.returns
returns g c = rw c.in-Some.is (c.in_ok-rules.rules, c.in_ok-refusal_by_rules.ensures)
