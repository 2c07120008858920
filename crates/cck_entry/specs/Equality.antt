-- when two entries are equal, as a test
use Rattle.std.specs.Prelude.{Bool, ◌&&◌, nat_eq}
use Rattle.std.specs.Cmp.Lexicographic.{pointwise, lists_equiv, options_equiv}
use Rattle.std.specs.Cmp.{IsEquivalence, IsPartialEquivalence, and_equiv, on_equiv, nat_eq_equiv, int_eq_equiv, partial_equiv_from_equiv}
use Rattle.std.specs.FinMap.{entries}
use Rattle.cck_path.specs.Timestamp.{Moment, same_moment}
use Rattle.cck_include.specs.Include.{Include, same_include}
use Rattle.cck_entry.specs.Results.{KeyResult}
use Rattle.cck_entry.specs.Entry.{Entry}

abbrev pub same_result : KeyResult → KeyResult → Bool
same_result a b = pointwise nat_eq a.0 b.0 && pointwise same_include a.1 b.1

abbrev pub same_entry : Entry → Entry → Bool
same_entry a b = pointwise same_result (entries a) (entries b)

moment_equiv : IsEquivalence same_moment
moment_equiv = and_equiv (on_equiv (λ (m : Moment). m.seconds) int_eq_equiv) (on_equiv (λ (m : Moment). m.nanoseconds) nat_eq_equiv)

include_equiv : IsEquivalence same_include
include_equiv =
    and_equiv (on_equiv (λ (i : Include). i.path) (lists_equiv nat_eq_equiv)) (and_equiv (on_equiv (λ (i : Include). i.digest) (lists_equiv nat_eq_equiv))
    (and_equiv (on_equiv (λ (i : Include). i.size) nat_eq_equiv) (and_equiv (on_equiv (λ (i : Include). i.modified) (options_equiv moment_equiv)) (on_equiv (λ (i : Include). i.changed) (options_equiv moment_equiv)))))

result_equiv : IsEquivalence same_result
result_equiv = and_equiv (on_equiv (λ (r : KeyResult). r.0) (lists_equiv nat_eq_equiv)) (on_equiv (λ (r : KeyResult). r.1) (lists_equiv include_equiv))

pub entry_equiv : IsEquivalence same_entry
entry_equiv = on_equiv (λ (e : Entry). entries e) (lists_equiv result_equiv)

pub entry_per : IsPartialEquivalence same_entry
entry_per = partial_equiv_from_equiv entry_equiv
