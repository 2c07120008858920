-- Sizes.
use Rattle.std.proofs.Common.{◌≡◌, ◌≢◌, ◌∷◌, [], ◌∙◌, ℕ, zero, suc, ◌+◌, ◌*◌, ◌^◌, ◌<◌, ◌==◌, true, false, not, nat_lt, List, Option, Some, None, length, take, get_or, cond, refl, sym, ap, subst, arith}
use Rattle.std.proofs.lemmas.Bool.{false≢true, cond_both, ltb-false}
use Rattle.std.proofs.lemmas.List.{get_or-drop}
use Rattle.std.proofs.lemmas.List.Sums.{prefix_len-le-length, prefix_len_passes}
use Rattle.std.proofs.lemmas.Str.Parse.{without_leading_plus_none}
use Rattle.std.specs.List.{position, position_or_len}
use Rattle.std.proofs.lemmas.Option.{same_Some}
use Rattle.std.specs.Option.{MatchOption, is_some, SomeIff, unwrap_or}
use Rattle.std.specs.Result.{is_ok, result_ok}
use Rattle.std.specs.Str.{IsCharBoundary}
use Rattle.std.specs.Str.Parse.{IsNumeral, ParsesUnsigned, digits_value, without_leading_plus}
use Rattle.std.specs.declared.result.Result.{Result}
use Rattle.std.specs.declared.result.Result.TheVariants.{Ok, Err}
use Rattle.cck_cache_rules.specs.Size.{IsSize, IsUnit, is_other, number_of, suffix_of}
use Rattle.cck_cache_rules.specs.Size.IsUnit.{byte, kilobyte, megabyte, gigabyte, terabyte, kibibyte, mebibyte, gibibyte, tebibyte}

-- ---- where the digits end

pub count_from_position : (text : List ℕ) → unwrap_or (position is_other text) (length text) ≡ position_or_len is_other text
count_from_position text =
    let count = position_or_len is_other text in
    let P : Option ℕ → Type 0 = λ found. unwrap_or found (length text) ≡ count in
    cond_both (nat_lt count (length text)) (Some count) None P (λ _. refl)
    (λ past. omega (arith, ltb-false count (length text) past, prefix_len-le-length (λ b. not (is_other b)) text))

-- ---- units

unit_first : (suffix : List ℕ) (unit : ℕ) → IsUnit suffix unit → get_or suffix 0 0 < 128
unit_first _ _ byte = omega arith
unit_first _ _ kilobyte = omega arith
unit_first _ _ megabyte = omega arith
unit_first _ _ gigabyte = omega arith
unit_first _ _ terabyte = omega arith
unit_first _ _ kibibyte = omega arith
unit_first _ _ mebibyte = omega arith
unit_first _ _ gibibyte = omega arith
unit_first _ _ tebibyte = omega arith

-- a product with a unit is no less than the number
factor_below : (suffix : List ℕ) (unit number : ℕ) → IsUnit suffix unit → number * unit < 2 ^ 64 → number < 2 ^ 64
factor_below _ _ number byte h = omega arith
factor_below _ _ number kilobyte h = omega arith
factor_below _ _ number megabyte h = omega arith
factor_below _ _ number gigabyte h = omega arith
factor_below _ _ number terabyte h = omega arith
factor_below _ _ number kibibyte h = omega arith
factor_below _ _ number mebibyte h = omega arith
factor_below _ _ number gibibyte h = omega arith
factor_below _ _ number tebibyte h = omega arith

-- the bytes of the unit, by the first byte of its suffix and the number of its bytes
abbrev bytes_of : List ℕ → ℕ
bytes_of [] = 1
bytes_of (b ∷ rest) =
    cond (length rest == 0) (cond (b == 107) (10 ^ 3) (cond (b == 77) (10 ^ 6) (cond (b == 71) (10 ^ 9) (10 ^ 12))))
    (cond (b == 75) (2 ^ 10) (cond (b == 77) (2 ^ 20) (cond (b == 71) (2 ^ 30) (2 ^ 40))))

bytes_are : (suffix : List ℕ) (unit : ℕ) → IsUnit suffix unit → bytes_of suffix ≡ unit
bytes_are _ _ byte = refl
bytes_are _ _ kilobyte = refl
bytes_are _ _ megabyte = refl
bytes_are _ _ gigabyte = refl
bytes_are _ _ terabyte = refl
bytes_are _ _ kibibyte = refl
bytes_are _ _ mebibyte = refl
bytes_are _ _ gibibyte = refl
bytes_are _ _ tebibyte = refl

unit_unique : (suffix : List ℕ) (a b : ℕ) → IsUnit suffix a → IsUnit suffix b → a ≡ b
unit_unique suffix a b h k = sym (bytes_are suffix a h) ∙ bytes_are suffix b k

-- ---- numbers

first_of_run : (text : List ℕ) (n : ℕ) → ((k : ℕ) → k < n → not (is_other (get_or text k 0)) ≡ true) → get_or (take n text) 0 0 ≢ 43
first_of_run text zero h e = absurd (omega arith)
first_of_run [] (suc n) h e = absurd (omega arith)
first_of_run (b ∷ bs) (suc n) h e = let P : ℕ → Type 0 = λ b. not (is_other b) ≡ true in false≢true (subst P e (h 0 (omega arith)))

no_plus : (text : List ℕ) → without_leading_plus (number_of text) ≡ number_of text
no_plus text = without_leading_plus_none (number_of text)
    (first_of_run text (position_or_len is_other text) (λ k. prefix_len_passes (λ b. not (is_other b)) text k 0))

-- ---- sizes

-- a suffix is not cut off within a character
pub cut_at_suffix : (text : List ℕ) (size : ℕ) → IsSize text size → IsCharBoundary text (position_or_len is_other text)
cut_at_suffix text size is =
    let count = position_or_len is_other text in
    let same : count + 0 ≡ count = omega arith in (
      prefix_len-le-length (λ b. not (is_other b)) text,
      λ _ high. absurd (omega (arith, high, unit_first (suffix_of text) is.unit is.suffix, get_or-drop count text 0 0, ap (λ k. get_or text k 0) same)),
    )

-- where the number is not read there is no size
pub no_size : {E : Type 0} (text : List ℕ) (r : Result ℕ E) → ParsesUnsigned 64 10 (number_of text) r → false ≡ is_ok r → (size : ℕ) → IsSize text size → ⊥
no_size text (Ok _) parsed failed size is = false≢true failed
no_size text (Err _) parsed failed size is =
    let P : List ℕ → Type 0 = λ ds. IsNumeral 10 ds × (digits_value 10 ds < 2 ^ 64) in
    parsed (subst P (sym (no_plus text)) (is.number, factor_below (suffix_of text) is.unit (digits_value 10 (number_of text)) is.suffix (omega (arith, is.value, is.below))))

-- the product of a number that was read and of a unit is the size
pub size_by : (text : List ℕ) (unit number : ℕ) (size : Option ℕ) → IsUnit (suffix_of text) unit → IsNumeral 10 (number_of text) → number ≡ digits_value 10 (number_of text)
    → SomeIff size (number * unit < 2 ^ 64) (number * unit) → MatchOption size ((bytes : ℕ) → IsSize text bytes → ⊥) (IsSize text)
size_by text unit number None suffix digits value none = λ bytes is.
    let same = unit_unique (suffix_of text) is.unit unit is.suffix suffix in
    none (subst (λ n. n < 2 ^ 64) (is.value ∙ ap (λ u. digits_value 10 (number_of text) * u) same ∙ ap (λ n. n * unit) (sym value)) is.below)
size_by text unit number (Some bytes) suffix digits value some = record {
  unit = unit;
  number = digits;
  suffix = suffix;
  value = some.1 ∙ ap (λ n. n * unit) value;
  below = subst (λ n. n < 2 ^ 64) (sym some.1) some.0;
}

-- what was read is a number without a plus
pub number_read : {E : Type 0} (text : List ℕ) (r : Result ℕ E) (number : ℕ) → ParsesUnsigned 64 10 (number_of text) r → Some number ≡ result_ok r
    → IsNumeral 10 (number_of text) × (number ≡ digits_value 10 (number_of text))
number_read text (Ok n) number parsed is =
    let P : List ℕ → Type 0 = λ ds. IsNumeral 10 ds × (number ≡ digits_value 10 ds) in
    subst P (no_plus text) (parsed.0.0, same_Some _ _ is ∙ parsed.1)
number_read text (Err _) number parsed is = absurd (false≢true (sym (ap is_some is)))
