-- The paths at which calls are made for a name.
use Rattle.std.proofs.Common.{◌≡◌, ◌||◌, ℕ, List, Bool, true, false, not, is_some, refl, sym, ap, ◌∙◌}
use Rattle.std.specs.FinMap.{contains_key, get}
use Rattle.std.specs.Ordering.{eq_by_cmp}
use Rattle.cck_files.proofs.CallsLemmas.{calls_among}
use Rattle.cck_files.specs.Calls.{AreCalls}
use Rattle.cck_path.specs.Path.{Path, components, path_cmp}
use Rattle.cck_hasher.specs.Decided.{Context, Digests, IsLookedFor, is_known, is_looked_for, is_passed, path_named}

none_holds : (a b c : Bool) → a ≡ false → b ≡ false → c ≡ false → not (a || (b || c)) ≡ true
none_holds true b c p q r = absurd cc
none_holds false true c p q r = absurd cc
none_holds false false true p q r = absurd cc
none_holds false false false p q r = refl

module _ (c : Context) (held : Digests) (name : List ℕ) (is_system : Bool) (path seen compared : List ℕ) (is : components path ≡ path_named c name) (same-seen : seen ≡ path) (same-compared : compared ≡ path)
    (passed : is_passed c.setting.config.skip_system_headers name is_system ≡ false) (contains : contains_key held (components seen) ≡ false) (other : eq_by_cmp path_cmp (components compared) c.input ≡ false) where
  -- a name that isn't passed over, and whose path is neither recorded nor the input
  looked_for : is_looked_for c held name is_system ≡ true
  unfolding is_looked_for is_known
  looked_for =
      let unknown : is_some (get held (path_named c name)) ≡ false = ap (λ (p : Path). contains_key held p) (sym is ∙ ap components (sym same-seen)) ∙ contains in
      let apart : eq_by_cmp path_cmp (path_named c name) c.input ≡ false = ap (λ (p : Path). eq_by_cmp path_cmp p c.input) (sym is ∙ ap components (sym same-compared)) ∙ other in
      none_holds (is_passed c.setting.config.skip_system_headers name is_system) (is_some (get held (path_named c name))) (eq_by_cmp path_cmp (path_named c name) c.input) passed unknown apart

  pub named_calls : {F : Type 0} {is_call : F → Path → F → Type 0} (judged : List ℕ) → judged ≡ path → (a b : F) → AreCalls is_call (λ p. p ≡ components judged) a b → AreCalls is_call (IsLookedFor c held name is_system) a b
  named_calls judged same-judged a b calls =
      calls_among (λ p. p ≡ components judged) (IsLookedFor c held name is_system) a b (λ p e. (looked_for, e ∙ ap components same-judged ∙ is)) calls
