use Rattle.cck_cache.proofs.record.opens_text_alone.Goals as goal

pub returns-in-Some : goal.returns-in-Some
returns-in-Some c = rw c.in-Some.is c.opens_named_alone.ensures
