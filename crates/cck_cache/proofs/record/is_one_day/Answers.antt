use Rattle.std.proofs.Common.{inl, inr}
use Rattle.jiff.specs.Words.{plain_zone}
use Rattle.cck_cache.proofs.RecordLemmas.{one_day}
use Rattle.cck_cache.proofs.record.is_one_day.Goals as goal

pub returns-in_default-local_time : goal.returns-in_default-local_time
returns-in_default-local_time c = inr (inl c.in_default-local_time.ensures)

pub returns : goal.returns
returns c =
    one_day (plain_zone c.args.zone.now) c.args.a.seconds c.args.b.seconds c.in-Some.a c.in-Some-local_time.b c.in-Some.ensures c.in-Some-local_time.ensures
    c.date.result c.date-2.result c.date.ensures c.date-2.ensures c.eq.result c.eq.ensures
