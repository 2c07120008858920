-- the places after more bytes of a text
use Rattle.std.proofs.Common.{◌≡◌, ℕ, ◌+◌, ◌<◌, ◌==◌, not, Bool, true, false, cond, List, [], ◌∷◌, ◌++◌, length, take, get_or, count_by, reverse, sym, ap, ap₂, ◌∙◌, add-zero, append_assoc, append-nil, arith, eq-eqb, map, subst, All, Option, Some, None, ◌≤◌}
use Rattle.std.proofs.lemmas.List.{length-reverse, map-append, reverse-append, take_more}
use Rattle.std.proofs.lemmas.Bool.{ne_eqb}
use Rattle.std.proofs.lemmas.List.Elements.{All-push}
use Rattle.std.proofs.lemmas.List.Sums.{count_by-le-length, prefix_len-le-length, sum_by-append}
use Rattle.std.specs.List.{prefix_len}
use Rattle.cck_include.proofs.ItemLemmas.{gives_both}
use Rattle.cck_include.specs.Items.{IsHere, marks_of}
use Rattle.cck_include.specs.Markers.{Yields, Unread, mark_of}
use Rattle.cck_include.specs.declared.mark.Mark.{Mark}
use Rattle.cck_explain_listing.specs.Place.{IsPlacedIn, placed_at, position_after}
use Rattle.cck_explain_listing.specs.declared.place.PlacedMark.{PlacedMark}
use Rattle.cck_explain_listing.specs.declared.place.Position.{Position}

-- after a line feed
after_feed : (front : List ℕ) (byte : ℕ) → (byte == 10) ≡ true → position_after (front ++ byte ∷ []) ≡ record { line = (position_after front).line + 1; column = 1 }
unfolding position_after
after_feed front byte is =
    let make : ℕ → ℕ → Position = λ line column. record { line = line; column = column } in
    let before = count_by (λ b. b == 10) front in
    let ahead = prefix_len (λ b. not (b == 10)) (reverse front) in
    ap₂ make
    (ap (λ n. n + 1) (sum_by-append (λ b. cond (b == 10) 1 0) front (byte ∷ []) ∙ ap (λ t. before + (0 + cond t 1 0)) is))
    (ap (λ l. prefix_len (λ b. not (b == 10)) l + 1) (reverse-append front (byte ∷ [])) ∙ ap (λ t. cond (not t) (1 + ahead) 0 + 1) is)

-- after another byte
after_other : (front : List ℕ) (byte : ℕ) → (byte == 10) ≡ false
    → position_after (front ++ byte ∷ []) ≡ record { line = (position_after front).line; column = (position_after front).column + 1 }
unfolding position_after
after_other front byte is =
    let make : ℕ → ℕ → Position = λ line column. record { line = line; column = column } in
    let before = count_by (λ b. b == 10) front in
    let ahead = prefix_len (λ b. not (b == 10)) (reverse front) in
    let swap : 1 + ahead + 1 ≡ ahead + 1 + 1 = omega arith in
    ap₂ make
    (ap (λ n. n + 1) (sum_by-append (λ b. cond (b == 10) 1 0) front (byte ∷ []) ∙ ap (λ t. before + (0 + cond t 1 0)) is ∙ add-zero before))
    (ap (λ l. prefix_len (λ b. not (b == 10)) l + 1) (reverse-append front (byte ∷ [])) ∙ ap (λ t. cond (not t) (1 + ahead) 0 + 1) is ∙ swap)

-- one more byte of those after the front
one_more : (front bytes : List ℕ) (i : ℕ) → i < length bytes → (front ++ take i bytes) ++ get_or bytes i 0 ∷ [] ≡ front ++ take (i + 1) bytes
one_more front bytes i lt = append_assoc front (take i bytes) (get_or bytes i 0 ∷ []) ∙ ap (λ l. front ++ l) (sym (take_more bytes i 0 lt))

module _ (front bytes : List ℕ) (i line column : ℕ) (lt : i < length bytes) where
  pub feed_more : get_or bytes i 0 ≡ 10 → record { line = line; column = column } ≡ position_after (front ++ take i bytes)
      → record { line = line + 1; column = 1 } ≡ position_after (front ++ take (i + 1) bytes)
  feed_more is so =
      let make : ℕ → Position = λ n. record { line = n + 1; column = 1 } in
      ap make (ap (λ p. p.line) so) ∙ sym (after_feed (front ++ take i bytes) (get_or bytes i 0) (eq-eqb (get_or bytes i 0) 10 is))
      ∙ ap position_after (one_more front bytes i lt)

  pub other_more : (get_or bytes i 0 ≡ 10 → ⊥) → record { line = line; column = column } ≡ position_after (front ++ take i bytes)
      → record { line = line; column = column + 1 } ≡ position_after (front ++ take (i + 1) bytes)
  other_more is so =
      let make : Position → Position = λ p. record { line = p.line; column = p.column + 1 } in
      ap make so ∙ sym (after_other (front ++ take i bytes) (get_or bytes i 0) (ne_eqb (get_or bytes i 0) 10 is))
      ∙ ap position_after (one_more front bytes i lt)

-- ---- marks

-- the marks after an item, which makes one or none
pub marks_next : (old middle new : Unread) (held : List PlacedMark) (position : Position) (mark : Option Mark)
    → Yields old (map (λ p. mark_of p.mark) held) middle → Yields middle (marks_of mark) new
    → Yields old (map (λ p. mark_of p.mark) (held ++ placed_at position mark)) new
marks_next old middle new held position None before item =
    subst (λ given. Yields old given new)
    (append-nil (map (λ p. mark_of p.mark) held) ∙ ap (λ all. map (λ p. mark_of p.mark) all) (sym (append-nil held)))
    (gives_both old middle new (map (λ p. mark_of p.mark) held) [] before item)
marks_next old middle new held position (Some mark) before item =
    let one : PlacedMark = record { position = position; mark = mark } in
    subst (λ given. Yields old given new) (sym (map-append (λ p. mark_of p.mark) held (one ∷ [])))
    (gives_both old middle new (map (λ p. mark_of p.mark) held) (mark_of mark ∷ []) before item)

-- the mark of an item is at its place
pub places_next : (text front rest : List ℕ) (starts_line : Bool) (held : List PlacedMark) (position : Position) (mark : Option Mark)
    → text ≡ front ++ rest → position ≡ position_after front → IsHere starts_line rest mark
    → All (IsPlacedIn text) held → All (IsPlacedIn text) (held ++ placed_at position mark)
places_next text front rest starts_line held position None is at here so-far = subst (λ all. All (IsPlacedIn text) all) (sym (append-nil held)) so-far
places_next text front rest starts_line held position (Some mark) is at here so-far =
    let one : PlacedMark = record { position = position; mark = mark } in
    let placed : IsPlacedIn text one = record { front = front; rest = rest; is = is; place = at; starts_line = starts_line; here = here } in
    All-push (IsPlacedIn text) held one so-far placed

-- ---- bounds

-- a place is within the text
pub bounded : (text front rest : List ℕ) (position : Position) → text ≡ front ++ rest → position ≡ position_after front → (position.line ≤ length front + 1) × (position.column ≤ length front + 1)
unfolding position_after
bounded text front rest position is at = (
  let h = count_by-le-length (λ b. b == 10) front in let e = ap (λ p. p.line) at in omega (arith, h, e),
  let h = prefix_len-le-length (λ b. not (b == 10)) (reverse front) in let e = ap (λ p. p.column) at in let n = length-reverse front in omega (arith, h, e, n),
)
