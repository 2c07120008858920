-- a text that is cut at the first of its separators
use Rattle.std.proofs.Common.{◌≡◌, ℕ, ◌+◌, ◌<◌, Bool, true, false, List, [], ◌∷◌, ◌++◌, Option, None, Some, refl, ap, sym, ◌∙◌, length, get_or, take, drop, nat_eq, arith}
use Rattle.std.specs.Option.{option_map}
use Rattle.std.specs.List.{All, slice_split}
use Rattle.std.proofs.lemmas.List.{drop_more, get_or-take, get_or_default, length-take-le, take-append-drop}
use Rattle.std.proofs.lemmas.List.Splits.{length-slice_split, slice_split_at, slice_split_none}
use Rattle.memchr.specs.Find.{IsFirstByte, is_byte}
use Rattle.cck_cache_options.specs.Table.{entry_of_line, pieces_of, split_at}

fails : (b : Bool) → (b ≡ true → ⊥) → b ≡ false
fails true h = absurd (h refl)
fails false h = refl

pub is_cut : (separator : ℕ) (text : List ℕ) (r : Option ℕ) → IsFirstByte (is_byte separator) text r
    → split_at separator text ≡ pieces_of separator text (option_map (λ n. (take n text, drop (n + 1) text)) r)
is_cut separator text None h =
    slice_split_none (λ byte. nat_eq byte separator) text
    (λ k e m. ap (λ byte. nat_eq byte separator) (get_or_default text k e 0 m) ∙ fails _ (h k (omega arith) m))
is_cut separator text (Some n) h =
    let p = λ (byte : ℕ). nat_eq byte separator in
    let lt = h.0.high in
    let parts : text ≡ take n text ++ get_or text n 0 ∷ drop (n + 1) text = sym (take-append-drop n text) ∙ ap (λ rest. take n text ++ rest) (drop_more text n 0 lt) in
    let before : All (λ byte. p byte ≡ false) (take n text) =
    λ k e m.
    let low : k < n = omega (arith, m, lt, length-take-le n text (omega (arith, lt))) in
    ap p (get_or-take n text k e low ∙ get_or_default text k e 0 (omega (arith, low, lt))) ∙ fails _ (h.0.before k (omega arith) low)
    in
    ap (slice_split p) parts ∙ slice_split_at p (take n text) (get_or text n 0) (drop (n + 1) text) before h.1

-- a line of more than three fields has no row
pub four_fields : (name form class : List ℕ) (text : List ℕ) → entry_of_line (name ∷ form ∷ class ∷ split_at 32 text) ≡ None
four_fields name form class text = by_rest (split_at 32 text) (omega (arith, length-slice_split (λ byte. nat_eq byte 32) text))
  where
    by_rest : (rest : List (List ℕ)) → 0 < length rest → entry_of_line (name ∷ form ∷ class ∷ rest) ≡ None
    by_rest [] lt = absurd (omega arith)
    by_rest (field ∷ rest) lt = refl
