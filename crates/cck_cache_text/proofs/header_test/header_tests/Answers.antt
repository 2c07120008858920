use Rattle.std.proofs.Common.{◌≡◌, ℕ, suc, ◌+◌, ◌<◌, Bool, true, false, Bor, refl, List, [], get_or, length, ◌∙◌, sym, ap, subst, arith, map}
use Rattle.std.proofs.lemmas.List.{get_or-map, length-map}
use Rattle.cck_cache_text.specs.SearchList.{text_lines}
use Rattle.cck_cache_text.specs.declared.header_test.HeaderTest.{HeaderTest}
use Rattle.cck_cache_text.specs.HeaderTests.{Gains, GainsLine, IsBlindIn, IsBlindLine, may_be_open, may_begin_open, test_fields}
use Rattle.cck_cache_text.specs.TestName.{TestFields, may_have_test}
use Rattle.cck_cache_text.proofs.HeaderTestLemmas.{IsTestAbove, all_lines, gains_none, line_here, line_blind_here, no_test}
use Rattle.cck_cache_text.proofs.header_test.header_tests.Goals as goal

pub loop-line-init : goal.loop-line-init
loop-line-init c = record {
  inside = refl;
  known = λ k lt. absurd (omega arith);
  gained = gains_none (IsTestAbove (map (λ line. line.now) c.deref-line-items.result.now) 0) (test_fields c.new-tests.result.items) (λ test above. omega (arith, above.1));
}

nothing_in : (items : List HeaderTest) → items ≡ [] → test_fields items ≡ []
nothing_in items none = ap test_fields none

pub returns-then-not-may_have_test : goal.returns-then-not-may_have_test
returns-then-not-may_have_test c =
    let none : may_have_test c.args.text.now ≡ false = sym c.may_have_test.ensures ∙ c.if-not-may_have_test.true in
    let empty : length (test_fields c.new-tests.result.items) ≡ 0 = ap length (nothing_in c.new-tests.result.items c.new-tests.ensures.items) in (
      λ n lt blind. no_test c.args.text.now n blind.0 none lt blind.2,
      λ test. (λ h. absurd (omega (arith, empty, h.1)), λ h. absurd (no_test c.args.text.now h.0 h.2.0 none h.1 h.2.2)),
    )

pub loop-line-preserved : goal.loop-line-preserved
loop-line-preserved c =
    let items = c.deref-line-items.result.now in
    let lines = map (λ (line : Bor (List ℕ)). line.now) items in
    let i = c.loop-line.line-index in
    let line = (get_or items i _).now in
    let at : line ≡ get_or lines i [] = sym (get_or-map (λ (line : Bor (List ℕ)). line.now) items i _ [] c.loop-line-test.true) in
    let old = test_fields c.loop-line.tests.items in
    let new = test_fields c.add_tests.new.tests.items in
    let gained : GainsLine c.loop-line.is_open line old new true = subst (GainsLine c.loop-line.is_open line old new) c.if-not-branch.false c.in_ok-add_tests.ensures in
    let here : GainsLine (may_begin_open lines i) (get_or lines i []) old new true =
    subst (λ (l : List ℕ). GainsLine (may_begin_open lines i) l old new true) at (subst (λ (inside : Bool). GainsLine inside line old new true) c.loop-line.invariant.inside gained)
    in
    let next : suc i ≡ i + 1 = omega arith in
    record {
      inside = c.may_be_open-is_open.ensures ∙ (ap (λ (inside : Bool). may_be_open inside 0 line) c.loop-line.invariant.inside ∙ (ap (may_be_open (may_begin_open lines i) 0) at ∙ ap (may_begin_open lines) next));
      known = line_blind_here lines i here.0 c.loop-line.invariant.known;
      gained = line_here lines i (test_fields c.new-tests.result.items) old new here.1 c.loop-line.invariant.gained;
    }

pub returns-then-not-branch : goal.returns-then-not-branch
returns-then-not-branch c =
    let items = c.deref-line-items.result.now in
    let lines = map (λ (line : Bor (List ℕ)). line.now) items in
    let i = c.loop-line.line-index in
    let line = (get_or items i _).now in
    let at : line ≡ get_or lines i [] = sym (get_or-map (λ (line : Bor (List ℕ)). line.now) items i _ [] c.loop-line-test.true) in
    let is : lines ≡ text_lines c.args.text.now = ap (map (λ (line : Bor (List ℕ)). line.now)) c.deref-line-items.ensures.value ∙ c.in_ok-lines.ensures in
    let old = test_fields c.loop-line.tests.items in
    let new = test_fields c.add_tests.new.tests.items in
    let blind : IsBlindIn c.loop-line.is_open line = subst (GainsLine c.loop-line.is_open line old new) c.if-not-branch.true c.in_ok-add_tests.ensures in
    let here : IsBlindLine lines i = subst (λ (l : List ℕ). IsBlindIn (may_begin_open lines i) l) at (subst (λ (inside : Bool). IsBlindIn inside line) c.loop-line.invariant.inside blind) in
    let lt : i < length lines = omega (arith, c.loop-line-test.true, length-map items (λ (line : Bor (List ℕ)). line.now)) in
    subst (λ (all : List (List ℕ)). (n : ℕ) × (n < length all) × IsBlindLine all n) is (i, lt, here)

pub returns : goal.returns
returns c =
    let items = c.deref-line-items.result.now in
    let lines = map (λ (line : Bor (List ℕ)). line.now) items in
    let is : lines ≡ text_lines c.args.text.now = ap (map (λ (line : Bor (List ℕ)). line.now)) c.deref-line-items.ensures.value ∙ c.in_ok-lines.ensures in
    let end : c.loop-line.line-index ≡ length lines = omega (arith, length-map items (λ (line : Bor (List ℕ)). line.now)) in
    all_lines c.args.text.now lines c.loop-line.line-index (test_fields c.loop-line.tests.items) is end c.loop-line.invariant.known
    (subst (λ (old : List TestFields). Gains (IsTestAbove lines c.loop-line.line-index) old (test_fields c.loop-line.tests.items)) (nothing_in c.new-tests.result.items c.new-tests.ensures.items) c.loop-line.invariant.gained)
