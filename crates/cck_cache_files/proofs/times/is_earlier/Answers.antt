use Rattle.std.proofs.Common.{◌≡◌, ◌∙◌, arith, int_cmp, nat_cmp, rules, sym}
use Rattle.std.specs.Ordering.{is_lt, ordering_then}
use Rattle.cck_cache_files.proofs.TimeLemmas.{earlier_by_parts, earlier_by_seconds}
use Rattle.cck_cache_files.proofs.times.is_earlier.Goals as goal

pub returns-then-nanoseconds-eq0 : goal.returns-then-nanoseconds-eq0
returns-then-nanoseconds-eq0 c =
    earlier_by_seconds c.args.time c.args.since _ (sym c.nanoseconds.ensures.value ∙ c.if-nanoseconds-eq0.true) (rw (← c.seconds.ensures, ← c.seconds-then-nanoseconds-eq0.ensures) (search rules))

pub returns-else-nanoseconds-eq0 : goal.returns-else-nanoseconds-eq0
returns-else-nanoseconds-eq0 c =
    let less : c.lt.result ≡ is_lt (ordering_then (int_cmp c.args.time.seconds c.args.since.seconds) (nat_cmp c.args.time.nanoseconds c.args.since.nanoseconds)) = search rules in
    earlier_by_parts c.args.time c.args.since c.lt.result (omega (arith, c.nanoseconds.ensures.value, c.if-nanoseconds-eq0.false)) less
