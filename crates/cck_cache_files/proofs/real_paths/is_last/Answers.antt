use Rattle.std.proofs.Common.{◌≡◌, ◌<◌, ◌-◌, ◌∙◌, Contains, length, sym, ap, subst, arith}
use Rattle.std.proofs.lemmas.Option.{get_or_from_slice_get}
use Rattle.std.proofs.lemmas.Slice.Eq.{bytes_eq-Decides}
use Rattle.cck_cache_rules.specs.PathTest.{Real, Test, test_of, tests_of}
use Rattle.cck_path.specs.Bytes.{Bytes}
use Rattle.cck_cache_files.proofs.SetLemmas.{contains_map}
use Rattle.cck_cache_files.proofs.real_paths.is_last.Goals as goal

pub returns-in-Some-Real : goal.returns-in-Some-Real
returns-in-Some-Real c t =
    let tests = c.args.real.now in
    let last = c.in-Some-Real.field-0.now in
    let leads = c.in-Some-Real.field-0-1.items in
    let same : c.in-Some-Real.last.items ≡ c.args.path.now =
    sym c.as_slice.ensures.value ∙ (bytes_eq-Decides c.as_slice.result.now c.args.path.now).0 (sym c.eq.ensures ∙ t) in
    let within : length tests - 1 < length tests = omega (arith, c.in-Some-Real.ensures.item.3.0) in
    let here : Contains (tests_of tests) (test_of last) =
    contains_map test_of tests last (length tests - 1, within, get_or_from_slice_get tests (length tests - 1) last last (sym c.in-Some-Real.ensures.value)) in
    let is : test_of last ≡ Real c.args.path.now leads = ap test_of c.in-Some-Real.field-0-is ∙ ap (λ (p : Bytes). Real p leads) same in
    (leads, subst (λ (test : Test). Contains (tests_of tests) test) is here)
