use Rattle.std.proofs.Common.{◌≡◌, ℕ, true, false, List, [], ◌∷◌, ◌++◌, Some, length, subst, ◌∙◌, sym, ap, arith}
use Rattle.std.specs.Option.{option_map}
use Rattle.std.proofs.lemmas.List.{map-append}
use Rattle.cck_cache_text.specs.declared.header_test.HeaderTest.{HeaderTest}
use Rattle.cck_cache_text.specs.HeaderTests.{Gains, IsTestIn, fields_of, is_test, test_fields, tested}
use Rattle.cck_cache_text.specs.TestName.{TestFields, lent_fields, may_have_test}
use Rattle.cck_cache_text.proofs.HeaderTestLemmas.{IsTestBelow, gains_none, no_test_of_line, none_here, none_blind_here, one_here, one_blind_here}
use Rattle.cck_cache_text.proofs.header_test.add_tests.Goals as goal

pub returns-then-not-may_have_test : goal.returns-then-not-may_have_test
returns-then-not-may_have_test c =
    let line = c.args.line.now in
    let none : may_have_test line ≡ false = sym c.may_have_test.ensures ∙ c.if-not-may_have_test.true in (
      λ blind. no_test_of_line line c.args.is_open blind.0 none blind.2,
      gains_none (IsTestIn c.args.is_open line) (test_fields c.args.tests.now.items) (λ test here. no_test_of_line line c.args.is_open here.0 none here.2),
    )

pub loop-place-init : goal.loop-place-init
loop-place-init c = record {
  known = λ k lt. absurd (omega arith);
  gained = gains_none (IsTestBelow c.args.is_open c.args.line.now 0) (test_fields c.args.tests.now.items) (λ test below. omega (arith, below.1));
}

pub loop-place-preserved-then-not-is_test : goal.loop-place-preserved-then-not-is_test
loop-place-preserved-then-not-is_test c =
    let none : is_test c.args.is_open c.args.line.now c.loop-place.place ≡ false = sym c.is_test.ensures ∙ c.if-not-is_test.true in
    record {
      known = none_blind_here c.args.is_open c.args.line.now c.loop-place.place none c.loop-place.invariant.known;
      gained = none_here c.args.is_open c.args.line.now c.loop-place.place (test_fields c.args.tests.now.items) (test_fields c.loop-place.tests.items) none c.loop-place.invariant.gained;
    }

pub loop-place-preserved : goal.loop-place-preserved
loop-place-preserved c =
    let line = c.args.line.now in
    let place = c.loop-place.place in
    let old = c.loop-place.tests.items in
    let name = c.in-Some.name.now in
    let is_quoted = c.in-Some.is_quoted in
    let one : TestFields = record { name = name; is_quoted = is_quoted } in
    let is : is_test c.args.is_open line place ≡ true = sym c.is_test.ensures ∙ c.if-not-is_test.false in
    let here : tested c.args.is_open line place ≡ Some one = sym c.tested.ensures ∙ ap (option_map lent_fields) c.in-Some.is in
    let pushed : HeaderTest = record { name = c.in_ok-to_vec.field-0; is_quoted = is_quoted } in
    let grown : test_fields c.push.new.self.items ≡ test_fields old ++ one ∷ [] =
    ap test_fields c.in_ok-push.ensures.items ∙ (map-append fields_of old (pushed ∷ []) ∙ ap (λ (n : List ℕ). test_fields old ++ record { name = n; is_quoted = is_quoted } ∷ []) (c.in_ok-to_vec.ensures.items_if_clones_equal (λ x y e. e)))
    in
    record {
      known = one_blind_here c.args.is_open line place one here c.loop-place.invariant.known;
      gained = one_here c.args.is_open line place (test_fields c.args.tests.now.items) (test_fields old) (test_fields c.push.new.self.items) one is here grown c.loop-place.invariant.gained;
    }

pub returns : goal.returns
returns c =
    let end : c.loop-place.place ≡ length c.args.line.now = omega arith in (
      λ blind. c.loop-place.invariant.known blind.0 (omega (arith, blind.1, end)) blind.2 blind.3,
      subst (λ (n : ℕ). Gains (IsTestBelow c.args.is_open c.args.line.now n) (test_fields c.args.tests.now.items) (test_fields c.loop-place.tests.items)) end c.loop-place.invariant.gained,
    )
