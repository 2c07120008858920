use Rattle.std.proofs.Common.{◌≡◌, ℕ, List, ◌⊎◌, inl, inr, ◌++◌, codes, ap, ◌∙◌, subst}
use Rattle.std.proofs.lemmas.List.{append-nil}
use Rattle.cck_cache_text.specs.Absent.{precompiled}
use Rattle.cck_cache_text.specs.Sets.{Adds}
use Rattle.cck_cache_text.specs.TestedPaths.{IsEither}
use Rattle.cck_cache_text.proofs.SetLemmas.{adds_as, adds_both}
use Rattle.cck_cache_text.proofs.tested_paths.add_either.Goals as goal

swap : {A B : Type 0} → A ⊎ B → B ⊎ A
swap (inl a) = inr a
swap (inr b) = inl b

pub returns : goal.returns
returns c =
    let path = c.args.path.items in
    let old = c.args.paths.now in
    let middle = c.add.new.paths in
    let new = c.add-2.new.paths in
    let same : c.in_ok-joined.field-0.items ≡ precompiled path = c.in_ok-joined.ensures ∙ (append-nil _ ∙ ap (λ p. p ++ codes ".gch") c.deref.ensures.value) in
    let first : Adds (λ q. q ≡ precompiled path) old middle = subst (λ (p : List ℕ). Adds (λ q. q ≡ p) old middle) same c.in_ok-add.ensures in
    adds_as (λ q. (q ≡ precompiled path) ⊎ (q ≡ path)) (IsEither path) old new (λ q e. swap e) (λ q e. swap e)
    (adds_both (λ q. q ≡ precompiled path) (λ q. q ≡ path) old middle new first c.in_ok-add-2.ensures)
