-- what is read of a line marker
use Rattle.std.proofs.Common.{◌≡◌, ◌≢◌, ℕ, suc, ◌+◌, ◌-◌, Bool, true, false, ◌==◌, ◌||◌, List, [], ◌∷◌, ◌++◌, length, take, drop, get_or, refl, sym, ap, ◌∙◌, subst, arith, Some, None, ◌⊎◌, inl, inr}
use Rattle.std.specs.Prelude.{All}
use Rattle.std.proofs.lemmas.Bool.{eqb-true, ne_eqb}
use Rattle.std.proofs.lemmas.Bool.Decides.{eqb_tells}
use Rattle.std.proofs.lemmas.List.{length-take, length-drop, get_or_default, append-nil, nil_from_length}
use Rattle.memchr.specs.Find.{IsFirstByte, is_byte, is_byte2}
use Rattle.cck_include.specs.Marks.{has_three, is_system, Unnamed, Named}
use Rattle.cck_include.specs.Lines.{IsNamedAt, IsUnnamedTo}
use Rattle.cck_include.proofs.OneList.{stop_same, no_stop, not_both}
use Rattle.cck_include.proofs.OneList.{middle_some}
use Rattle.cck_include.proofs.Cuts.{slice_from, cut_at, byte_at, byte_nowhere, pair_free, pair_at, pair_first, pair_nowhere}

pub malformed_free : (text : List ℕ) → IsFirstByte (is_byte2 34 10) text None → (Unnamed text → ⊥) × (Named text → ⊥)
malformed_free text h =
    let free = pair_nowhere 34 10 text h in
    (λ u. no_stop 10 text u.front u.rest (λ k d l. (free k d l).1) u.is, λ n. no_stop 34 text n.front (n.name ++ n.rest) (λ k d l. (free k d l).0) n.is)

pub unnamed_line : (text : List ℕ) (first d : ℕ) → IsFirstByte (is_byte2 34 10) text (Some first) → get_or text first d ≡ 10 → IsUnnamedTo text first
unnamed_line text first d h e = (
  record {
    front = take first text;
    rest = drop (first + 1) text;
    is = pair_at 34 10 text first d 10 h e;
    free = pair_free 34 10 text first h;
  },
  omega (arith, h.0.high, length-take first text),
)

-- what a name says, by what is after the first quote
abbrev NamesFrom : List ℕ → ℕ → ℕ → List ℕ → Bool → Type 0
NamesFrom text begin end name is_system_in = (marker : Named text) × IsNamedAt text begin end marker × (marker.name ≡ name) × (is_system marker.rest ≡ is_system_in)

module _ (text : List ℕ) (first d : ℕ) (h : IsFirstByte (is_byte2 34 10) text (Some first)) (e : get_or text first d ≢ 10) where
  cut : text ≡ take first text ++ 34 ∷ drop (first + 1) text
  cut = pair_at 34 10 text first d 34 h (pair_first 34 10 text first d h e)

  front_length : length (take first text) ≡ first
  front_length = omega (arith, h.0.high, length-take first text)

  closed_name : (following : List ℕ) (size : ℕ) (is_system_in : Bool) → following ≡ drop (first + 1) text → IsFirstByte (is_byte 34) following (Some size) → is_system_in ≡ has_three (drop (size + 1) following)
      → NamesFrom text (first + 1) (first + 1 + size) (take size following) is_system_in
  closed_name following size is_system_in is found three =
      let closing = byte_at 34 following size found in
      let long : length (take size following) ≡ size = omega (arith, closing.2, length-take size following) in (
        record {
          front = take first text;
          name = take size following;
          rest = 34 ∷ drop (size + 1) following;
          is = cut ∙ ap (λ v. take first text ++ 34 ∷ v) (sym is ∙ closing.0);
          free = pair_free 34 10 text first h;
          unquoted = closing.1;
          closed = refl;
          some = middle_some (take size following) 34 (drop (size + 1) following);
        },
        record {
          begins = omega (arith, front_length);
          ends = omega (arith, long);
          within = omega (arith, h.0.high, closing.2, ap length is, length-drop (first + 1) text);
        },
        refl,
        sym three,
      )

  pub named_line : (size : ℕ) (is_system_in : Bool) → IsFirstByte (is_byte 34) (take (length text - (first + 1)) (drop (first + 1) text)) (Some size)
      → is_system_in ≡ has_three (take (length (take (length text - (first + 1)) (drop (first + 1) text)) - (size + 1)) (drop (size + 1) (take (length text - (first + 1)) (drop (first + 1) text))))
      → NamesFrom text (first + 1) (first + 1 + size) (take size (take (length text - (first + 1)) (drop (first + 1) text))) is_system_in
  named_line size is_system_in found three =
      let following = take (length text - (first + 1)) (drop (first + 1) text) in
      closed_name following size is_system_in (slice_from text (first + 1)) found (three ∙ ap has_three (slice_from following (size + 1)))

  open_name : (following : List ℕ) → following ≡ drop (first + 1) text → IsFirstByte (is_byte 34) following None → (length following ≡ 0 → ⊥) → NamesFrom text (first + 1) (length text) following false
  open_name following is found some = (
    record {
      front = take first text;
      name = following;
      rest = [];
      is = cut ∙ ap (λ v. take first text ++ 34 ∷ v) (sym is ∙ sym (append-nil following));
      free = pair_free 34 10 text first h;
      unquoted = byte_nowhere 34 following found;
      closed = tt;
      some = λ none. some (ap length (sym (append-nil following) ∙ none));
    },
    record {
      begins = omega (arith, front_length);
      ends = omega (arith, h.0.high, ap length is, length-drop (first + 1) text);
      within = omega arith;
    },
    refl,
    refl,
  )

  pub open_line : IsFirstByte (is_byte 34) (take (length text - (first + 1)) (drop (first + 1) text)) None → (length (take (length text - (first + 1)) (drop (first + 1) text)) ≡ 0 → ⊥)
      → NamesFrom text (first + 1) (length text) (take (length text - (first + 1)) (drop (first + 1) text)) false
  open_line found some = open_name (take (length text - (first + 1)) (drop (first + 1) text)) (slice_from text (first + 1)) found some

  -- a quote that is the last byte
  pub malformed_last : length (take (length text - (first + 1)) (drop (first + 1) text)) ≡ 0 → (Unnamed text → ⊥) × (Named text → ⊥)
  malformed_last last =
      let none : drop (first + 1) text ≡ [] = sym (slice_from text (first + 1)) ∙ nil_from_length _ last in
      let free = pair_free 34 10 text first h in
      let is : text ≡ take first text ++ 34 ∷ [] = cut ∙ ap (λ v. take first text ++ 34 ∷ v) none in (
        λ u. not_both u.front (take first text) u.rest [] u.free free (sym u.is ∙ is),
        λ n. n.some (stop_same 34 n.front (take first text) (n.name ++ n.rest) [] (λ k d l. (n.free k d l).0) (λ k d l. (free k d l).0) (sym n.is ∙ is)).1,
      )

three_here : (v : ℕ) (rest : List ℕ) → (v ≡ 51) ⊎ (v ≡ 10) → (v == 51) ≡ has_three (v ∷ rest)
three_here v rest (inl e) = rw e refl
three_here v rest (inr e) = rw e refl

three_after : (front : List ℕ) (v : ℕ) (rest : List ℕ) → All (λ v. (v ≢ 51) × (v ≢ 10)) front → (v ≡ 51) ⊎ (v ≡ 10) → (v == 51) ≡ has_three (front ++ v ∷ rest)
three_after [] v rest free e = three_here v rest e
three_after (x ∷ front) v rest free e =
    let here = free 0 x (omega arith) in
    rw (ne_eqb x 10 here.1, ne_eqb x 51 here.0) (three_after front v rest (λ k d l. free (suc k) d (omega arith)) e)

either : (v : ℕ) → (v == 51 || v == 10) ≡ true → (v ≡ 51) ⊎ (v ≡ 10)
either v h =
    elim (eqb_tells v 51) [
      | inl same ↦ inl same.1
      | inr other ↦ inr (eqb-true v 10 (subst (λ b. (b || v == 10) ≡ true) other.0 h))
    ]

pub three_at : (text : List ℕ) (place d : ℕ) → IsFirstByte (is_byte2 51 10) text (Some place) → (get_or text place d == 51) ≡ has_three text
three_at text place d h =
    let same = get_or_default text place d 0 h.0.high in
    rw same (three_after (take place text) (get_or text place 0) (drop (place + 1) text) (pair_free 51 10 text place h) (either (get_or text place 0) h.1) ∙ ap has_three (sym (cut_at text place 0 h.0.high)))

three_none : (text : List ℕ) → All (λ v. (v ≢ 51) × (v ≢ 10)) text → false ≡ has_three text
three_none [] free = refl
three_none (x ∷ text) free =
    let here = free 0 x (omega arith) in
    rw (ne_eqb x 10 here.1, ne_eqb x 51 here.0) (three_none text (λ k d l. free (suc k) d (omega arith)))

pub three_nowhere : (text : List ℕ) → IsFirstByte (is_byte2 51 10) text None → false ≡ has_three text
three_nowhere text h = three_none text (pair_nowhere 51 10 text h)
