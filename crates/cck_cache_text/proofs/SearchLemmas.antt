-- The lines of a list of directories, read one by one.
use Rattle.std.proofs.Common.{◌≡◌, ◌≢◌, ℕ, suc, ◌+◌, ◌<◌, ◌≤◌, inl, inr, Bool, true, false, not, ◌||◌, cond, ltb, List, [], ◌∷◌, ◌++◌, Option, Some, None, Bor, length, map, take, get_or, refl, sym, ap, ◌∙◌, arith}
use Rattle.std.specs.List.{list_any, position_or_len}
use Rattle.std.specs.Option.{option_map, MatchOption, unwrap_or}
use Rattle.std.specs.Prelude.{option_to_list}
use Rattle.std.proofs.lemmas.List.{append_cancel_left, same_from_push, take_more, map-append}
use Rattle.std.proofs.lemmas.Bool.{cases_lt, lt-ltb, le-ltb}
use Rattle.std.proofs.lemmas.List.Sums.{prefix_len-le-length}
use Rattle.cck_cache_rules.specs.Reading.{AreRead, nothing_read, one_read, ReadsBack}
use Rattle.cck_cache_text.specs.SearchList.{quoted_line}

-- what is in quotes at the end of a line, after these bytes
pub quoted_read : (front line rest : List ℕ) (r : Option (Bor (List ℕ))) → line ≡ front ++ rest
    → MatchOption r ((before : List ℕ) → rest ≢ before ++ 34 ∷ []) (λ x. rest ≡ x.now ++ 34 ∷ []) → ReadsBack (quoted_line front) line (option_map (λ d. d.now) r)
quoted_read front line rest None is none = λ d same. none d (append_cancel_left front rest (d ++ 34 ∷ []) (sym is ∙ sym same))
quoted_read front line rest (Some x) is ends = (
  ap (λ r. front ++ r) (sym ends) ∙ sym is,
  λ d same. (same_from_push d x.now 34 34 (append_cancel_left front (d ++ 34 ∷ []) (x.now ++ 34 ∷ []) (same ∙ (is ∙ ap (λ r. front ++ r) ends)))).0,
)

module _ {X : Type 0} (write : X → List ℕ) where
  pub none_read : (found : List X) → found ≡ [] → AreRead write [] found
  none_read found none = rw none nothing_read

  -- one more line
  pub more_read : (lines : List (Bor (List ℕ))) (i : ℕ) (d : Bor (List ℕ)) (known found : List X) (read : Option X) → i < length lines → AreRead write (map (λ l. l.now) (take i lines)) known
      → ReadsBack write (get_or lines i d).now read → found ≡ known ++ option_to_list read → AreRead write (map (λ l. l.now) (take (i + 1) lines)) found
  more_read lines i d known found read within before reads is =
      one_read (get_or lines i d).now read before reads
      (ap (map (λ l. l.now)) (take_more lines i d within) ∙ map-append (λ l. l.now) (take i lines) (get_or lines i d ∷ []))
      is

-- the first place in a list of values
pub place_in_map : {X Y : Type 0} (p : Y → Bool) (f : X → Y) (xs : List X) → position_or_len p (map f xs) ≡ position_or_len (λ x. p (f x)) xs
place_in_map p f [] = refl
place_in_map p f (x ∷ xs) = ap (λ n. cond (not (p (f x))) (1 + n) 0) (place_in_map p f xs)

module _ {X : Type 0} (p : X → Bool) where
  pub place_within : (xs : List X) → position_or_len p xs ≤ length xs
  place_within xs = prefix_len-le-length (λ x. not (p x)) xs

  pub unwrapped_place : (xs : List X) → unwrap_or (cond (ltb (position_or_len p xs) (length xs)) (Some (position_or_len p xs)) None) (length xs) ≡ position_or_len p xs
  unwrapped_place xs = unwrapped (position_or_len p xs) (length xs) (place_within xs)
    where
      unwrapped : (n m : ℕ) → n ≤ m → unwrap_or (cond (ltb n m) (Some n) None) m ≡ n
      unwrapped n m within =
          elim (cases_lt n m) [
            | inl lt ↦ rw (lt-ltb n m lt) refl
            | inr le ↦ rw (le-ltb n m le) (omega arith)
          ]

  none_of : (b : Bool) (xs : List X) → (length xs ≤ position_or_len p xs → list_any p xs ≡ false) → suc (length xs) ≤ cond (not b) (1 + position_or_len p xs) 0 → (b || list_any p xs) ≡ false
  none_of true xs more within = absurd (omega arith)
  none_of false xs more within = more (omega arith)

  pub none_pass : (xs : List X) → length xs ≤ position_or_len p xs → list_any p xs ≡ false
  none_pass [] within = refl
  none_pass (x ∷ xs) within = none_of (p x) xs (none_pass xs) within

  some_of : (b : Bool) (xs : List X) → (position_or_len p xs < length xs → list_any p xs ≡ true) → cond (not b) (1 + position_or_len p xs) 0 < suc (length xs) → (b || list_any p xs) ≡ true
  some_of true xs more within = refl
  some_of false xs more within = more (omega arith)

  pub some_passes : (xs : List X) → position_or_len p xs < length xs → list_any p xs ≡ true
  some_passes [] within = absurd (omega arith)
  some_passes (x ∷ xs) within = some_of (p x) xs (some_passes xs) within
