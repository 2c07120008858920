-- the result of a key in an entry
use Rattle.std.proofs.Common.{◌≡◌, ◌∙◌, ◌<◌, ◌+◌, ℕ, inl, inr, arith, List, [], ◌∷◌, ◌++◌, Ok, get_or, length, map, take, sym, ap, subst}
use Rattle.std.proofs.lemmas.List.{map-append, take_more}
use Rattle.std.proofs.lemmas.List.Elements.{Contains-append_cases}
use Rattle.std.specs.List.{Contains}
use Rattle.cck_entry.specs.Entry.{Entry, EntryText, Reads}
use Rattle.cck_entry.specs.Lent.{result_lent}
use Rattle.cck_entry.specs.Results.{KeyResult}
use Rattle.cck_entry.specs.declared.result_ref.ResultRef.{ResultRef}
use Rattle.cck_include.specs.Include.{Include}
use Rattle.cck_path.specs.Bytes.{Bytes}

-- the one element of a list
one_element : {X : Type 0} (x y : X) → Contains (x ∷ []) y → x ≡ y
one_element x y at =
    let first : at.0 ≡ 0 = omega (arith, at.1) in
    subst (λ (n : ℕ). get_or (x ∷ []) n y ≡ y) first at.2

-- no result so far has the key, nor has the next one
pub none_more : (results : List ResultRef) (i : ℕ) (r : ResultRef) (key : Bytes) → i < length results → r ≡ get_or results i r → (r.key.now ≡ key → ⊥)
    → ((includes : List Include) → Contains (map result_lent (take i results)) (key, includes) → ⊥) → (includes : List Include) → Contains (map result_lent (take (i + 1) results)) (key, includes) → ⊥
none_more results i r key within is other none includes at =
    let before = map result_lent (take i results) in
    let all : map result_lent (take (i + 1) results) ≡ before ++ result_lent r ∷ [] =
    ap (λ (rs : List ResultRef). map result_lent rs) (take_more results i r within)
    ∙ (map-append result_lent (take i results) (get_or results i r ∷ []) ∙ ap (λ (v : ResultRef). before ++ result_lent v ∷ []) (sym is))
    in
    elim (Contains-append_cases before (result_lent r ∷ []) (key, includes) (subst (λ (rs : List KeyResult). Contains rs (key, includes)) all at)) [
      | inl earlier ↦ none includes earlier
      | inr this ↦ other (ap (λ (found : KeyResult). found.0) (one_element (result_lent r) (key, includes) this))
    ]

-- bytes that are not empty were read as an entry
pub entry_read : (entry : Entry) (bytes : Bytes) → Reads (Ok entry) bytes → (bytes ≡ [] → ⊥) → EntryText entry bytes
entry_read entry bytes (inl text) some = text
entry_read entry bytes (inr none) some = absurd (some none.0)
