-- The result for a line marker, from what is read of it.
use Rattle.std.proofs.Common.{◌≡◌, ◌≢◌, ◌⊎◌, inl, inr, ℕ, ◌+◌, Bool, true, false, List, [], Ok, Err, refl, sym, ap, ◌∙◌}
use Rattle.cck_digest.specs.declared.key_error.KeyError.TheVariants as error
use Rattle.cck_include.specs.Lines.{IsNamedAt, IsUnnamedTo}
use Rattle.cck_include.specs.Marks.{Named, Unnamed, is_system}
use Rattle.cck_path.specs.Path.{Path}
use Rattle.cck_hasher.specs.Decided.{Context, Digests, IsLookedFor, Refuses, after, is_looked_for, outcome, path_named}
use Rattle.cck_hasher.specs.Line.{IsLineResult, IsLineLookedFor, IsNameResult}
use Rattle.cck_hasher.specs.declared.line.LineAction.TheVariants.{Continue, Break}

-- what was read of a marker with a name
abbrev pub IsReadAt : List ℕ → ℕ → ℕ → List ℕ → Bool → Type 0
IsReadAt text begin end name is_system_in = (marker : Named text) × IsNamedAt text begin end marker × (marker.name ≡ name) × (is_system marker.rest ≡ is_system_in)

module _ (c : Context) (HasFault : Type 0) (text : List ℕ) (start hash : ℕ) (old : Digests) where
  pub unnamed : (end : ℕ) → IsUnnamedTo text end → IsLineResult c HasFault text start hash old old (Ok (Break (start + end, hash, true)))
  unnamed end u = (refl, inl (end, u, refl, refl))

  pub malformed : (Unnamed text → ⊥) × (Named text → ⊥) → IsLineResult c HasFault text start hash old old (Err error.Marker)
  malformed h = (refl, h)

  module _ (begin end : ℕ) (name : List ℕ) (is_system_in : Bool) (r : IsReadAt text begin end name is_system_in) where
    pub unwritten : name ≡ [] → IsLineResult c HasFault text start hash old old (Ok (Break (start + end, start + begin, true)))
    unwritten none = (refl, inr (r.0, begin, end, r.1, r.2 ∙ none, refl, refl))

    same_outcome : outcome c old r.0.name (is_system r.0.rest) ≡ outcome c old name is_system_in
    same_outcome i = outcome c old (r.2 i) (r.3 i)

    pub goes_on : (new : Digests) → name ≢ [] → IsNameResult c HasFault old new name is_system_in (Ok true) → IsLineResult c HasFault text start hash old new (Ok (Continue (start + end, start + end)))
    goes_on new some does = (begin, end, refl, refl, (r.0, r.1, λ e. some (sym r.2 ∙ e), ap (after old) same_outcome ∙ does))

    same_look : is_looked_for c old r.0.name (is_system r.0.rest) ≡ is_looked_for c old name is_system_in
    same_look i = is_looked_for c old (r.2 i) (r.3 i)

    pub line_looked_for : (p : Path) → IsLookedFor c old name is_system_in p → IsLineLookedFor c old text p
    line_looked_for p looked_for = (r.0, (same_look ∙ looked_for.0, looked_for.1 ∙ ap (path_named c) (sym r.2)))

    stopped : (outcome c old name is_system_in ≡ Refuses) ⊎ (HasFault × (is_looked_for c old name is_system_in ≡ true))
        → (outcome c old r.0.name (is_system r.0.rest) ≡ Refuses) ⊎ (HasFault × (is_looked_for c old r.0.name (is_system r.0.rest) ≡ true))
    stopped (inl e) = inl (same_outcome ∙ e)
    stopped (inr fault) = inr (fault.0, same_look ∙ fault.1)

    pub stops : (new : Digests) → name ≢ [] → IsNameResult c HasFault old new name is_system_in (Ok false) → IsLineResult c HasFault text start hash old new (Ok (Break (start + end, start + begin, false)))
    stops new some does = (begin, end, refl, refl, does.0, (r.0, r.1, λ e. some (sym r.2 ∙ e), stopped does.1))
