use Rattle.std.proofs.Common.{◌≡◌, [], ◌∷◌, ◌++◌, List, refl, sym, ◌∙◌, ap, append_assoc}
use Rattle.std.proofs.lemmas.List.{append-nil, nil_from_length}
use Rattle.cck_cache_rules.specs.declared.path_test.PathTest.{PathTest}
use Rattle.cck_cache_files.proofs.absence.all_tests.Goals as goal

pub loop-test-init : goal.loop-test-init
loop-test-init c = rw (c.into_iter-test-iterator.ensures.into_iter_gives.0) refl

pub loop-test-preserved : goal.loop-test-preserved
loop-test-preserved c =
    let all = c.loop-test.all.items in
    rw (c.in_ok-push.ensures.items)
    (append_assoc all (c.in-Some.test ∷ []) c.next.new.self.rest.items
    ∙ (ap (λ (l : List PathTest). all ++ l) (sym c.in-Some.ensures.steps.0) ∙ c.loop-test.invariant))

pub returns : goal.returns
returns c =
    let all = c.loop-test.all.items in
    let none : c.loop-test.test-iterator.rest.items ≡ [] = nil_from_length _ (sym c.loop-test.test-iterator.rest.ok.0 ∙ c.in-None.ensures.steps.0) in
    sym (append-nil all) ∙ (ap (λ (l : List PathTest). all ++ l) (sym none) ∙ c.loop-test.invariant)
