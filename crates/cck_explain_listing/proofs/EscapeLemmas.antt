-- runs of bytes that are their own escapes
use Rattle.std.proofs.Common.{◌≡◌, ℕ, suc, ◌+◌, ◌/◌, ◌%◌, ◌<◌, ◌≤◌, [], ◌∷◌, ◌++◌, Bool, true, false, Option, Some, None, cond, refl, ap, sym, ◌∙◌, arith, length, get_or, take, drop, add-one, drop-cons, append_assoc, take-append-drop}
use Rattle.std.specs.Prelude.{nat_lt}
use Rattle.std.specs.List.{position, position_or_len}
use Rattle.std.proofs.lemmas.Bool.Decides.{nat_tests}
use Rattle.std.proofs.lemmas.Grind.{flat_map-append}
use Rattle.std.proofs.lemmas.List.{get_or-take, length-take-le}
use Rattle.std.proofs.lemmas.List.Quantifiers.{position-Some}
use Rattle.std.proofs.lemmas.List.Sums.{fails_before_first}
use Rattle.cck_digest.specs.Digest.{hex_digit}
use Rattle.cck_path.specs.Bytes.{Bytes}
use Rattle.cck_path.specs.Escape.{escape_letter, escaped, escaped_by, escaped_byte}
use Rattle.cck_explain_listing.specs.Escaped.{is_escaped}

-- a byte whose escape is one byte is its own escape
own_escape : (o : Option ℕ) (b : ℕ) → nat_lt 1 (length (escaped_by o b)) ≡ false → escaped_by o b ≡ b ∷ []
own_escape (Some letter) b h = cc
own_escape None b h = elim_case _ h
  where
    elim_case : (t : Bool) → nat_lt 1 (length (cond t (b ∷ []) (92 ∷ 120 ∷ hex_digit (b / 16) ∷ hex_digit (b % 16) ∷ []))) ≡ false
        → cond t (b ∷ []) (92 ∷ 120 ∷ hex_digit (b / 16) ∷ hex_digit (b % 16) ∷ []) ≡ b ∷ []
    elim_case true h = refl
    elim_case false h = cc

-- bytes none of which is escaped are their own escape
own_escapes : (s : Bytes) → ((k : ℕ) → k < length s → is_escaped (get_or s k 0) ≡ false) → escaped s ≡ s
own_escapes [] h = refl
own_escapes (b ∷ s) h =
    ap (λ l. l ++ escaped s) (own_escape (escape_letter b) b (h 0 (omega arith)))
    ∙ ap (λ l. b ∷ l) (own_escapes s (λ k lt. h (suc k) (omega arith)))

beyond : (i n : ℕ) → cond (nat_lt i n) (Some i) None ≡ None → n ≤ i
beyond i n h = grind (arith, nat_tests)

pub none_escaped : (s : Bytes) → position is_escaped s ≡ None → escaped s ≡ s
none_escaped s none =
    let all : length s ≤ position_or_len is_escaped s = beyond (position_or_len is_escaped s) (length s) none in
    own_escapes s (λ k lt. fails_before_first is_escaped s k 0 (omega arith))

first_escaped : (s : Bytes) (n : ℕ) → position is_escaped s ≡ Some n → escaped s ≡ take n s ++ (escaped_byte (get_or s n 0) ++ escaped (drop (n + 1) s))
first_escaped s n is =
    let at = position-Some is_escaped s n 0 is in
    let within : n < length s = at.0 in
    let split : s ≡ take n s ++ (get_or s n 0 ∷ drop (n + 1) s) =
    sym (take-append-drop n s) ∙ ap (λ l. take n s ++ l) (drop-cons s n 0 within ∙ ap (λ m. get_or s n 0 ∷ drop m s) (sym (add-one n))) in
    let front : escaped (take n s) ≡ take n s =
    own_escapes (take n s) (λ k lt.
    let below : k < n = omega (arith, length-take-le n s) in
    ap is_escaped (get_or-take n s k 0 below) ∙ at.2 k below) in
    ap escaped split ∙ flat_map-append escaped_byte (take n s) (get_or s n 0 ∷ drop (n + 1) s)
    ∙ ap (λ l. l ++ escaped (get_or s n 0 ∷ drop (n + 1) s)) front

-- one more run and the escaped byte after it were appended
pub run_more : (line run after all s : Bytes) (n : ℕ) → position is_escaped s ≡ Some n → line ++ escaped s ≡ all → run ≡ line ++ take n s
    → after ≡ run ++ escaped_byte (get_or s n 0) → after ++ escaped (drop (n + 1) s) ≡ all
run_more line run after all s n is so e h =
    let back = escaped (drop (n + 1) s) in
    let byte = escaped_byte (get_or s n 0) in
    ap (λ l. l ++ back) (h ∙ ap (λ l. l ++ byte) e ∙ append_assoc line (take n s) byte)
    ∙ append_assoc line (take n s ++ byte) back
    ∙ ap (λ l. line ++ l) (append_assoc (take n s) byte back ∙ sym (first_escaped s n is))
    ∙ so
