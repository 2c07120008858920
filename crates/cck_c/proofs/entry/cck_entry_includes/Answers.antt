use Rattle.std.proofs.Common.{◌≡◌, ◌<◌, ◌∙◌, ℕ, List, Some, length, map, get_or, refl, ap, arith}
use Rattle.std.specs.FinMap.{entries, len, len-entries}
use Rattle.std.specs.List.{slice_get}
use Rattle.std.specs.Option.{option_map}
use Rattle.std.proofs.lemmas.List.{length-map}
use Rattle.std.proofs.lemmas.Option.{slice_get-map, slice_get_read}
use Rattle.cck_entry.specs.Entry.{Entry}
use Rattle.cck_entry.specs.Lent.{result_lent}
use Rattle.cck_entry.specs.declared.result_ref.ResultRef.{ResultRef}
use Rattle.cck_c.proofs.entry.cck_entry_includes.Goals as goal

-- the entry has the result that is at this place of a view's results
result_at_place : (e : Entry) (all : List ResultRef) (i : ℕ) (one : ResultRef) → entries e ≡ map result_lent all → i < length all → one ≡ get_or all i one
    → slice_get (entries e) i ≡ Some (result_lent one)
result_at_place e all i one is within at =
    ap (λ rs. slice_get rs i) is ∙ (slice_get-map result_lent all i ∙ ap (option_map result_lent) (slice_get_read all (length all) i one refl within at))

pub returns-in_default-clause-absent : goal.returns-in_default-clause-absent
returns-in_default-clause-absent c e =
    let all = c.results.result.now in
    let past = c.in_default.ensures.lookup.3 in
    let size : len c.in-Ok.view ≡ length all = len-entries c.in-Ok.view ∙ (ap length c.results.ensures.entries ∙ length-map all result_lent) in
    (c.in-Ok.view, c.in-Ok.ensures.reads, omega arith)

pub returns-then-includes-length-clause-short : goal.returns-then-includes-length-clause-short
returns-then-includes-length-clause-short c e =
    let lookup = c.in-Some.ensures.lookup in
    let place = result_at_place c.in-Ok.view c.results.result.now c.args.index c.in-Some.one.now c.results.ensures.entries lookup.3.0 lookup.1 in (
      c.in-Ok.view,
      c.in-Ok.ensures.reads,
      (result_lent c.in-Some.one.now, place, omega (arith, c.include_count-length.ensures, c.if-includes-length.true)),
    )

pub returns-clause-done : goal.returns-clause-done
returns-clause-done c e =
    let lookup = c.in-Some.ensures.lookup in
    let place = result_at_place c.in-Ok.view c.results.result.now c.args.index c.in-Some.one.now c.results.ensures.entries lookup.3.0 lookup.1 in (
      c.in-Ok.view,
      c.in-Ok.ensures.reads,
      (result_lent c.in-Some.one.now, place, c.include_count-length.ensures, rw (← c.includes.ensures) c.write_includes.ensures),
    )
