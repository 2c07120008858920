-- Bytes that differ in one word or in two have different checksums.
use Rattle.std.proofs.Common.{◌≡◌, ℕ, suc, ◌+◌, ◌*◌, ◌%◌, ◌^◌, ◌<◌, List, [], ◌∷◌, ◌++◌, length, refl, sym, ap, ◌∙◌, arith, length-append, subst, mul-add, add-mul}
use Rattle.std.specs.Int.{from_le_bytes, to_le_bytes, w64}
use Rattle.std.specs.List.{All}
use Rattle.std.proofs.lemmas.List.Elements.{All-cons, All-nil}
use Rattle.std.proofs.lemmas.Nat.{from_le_bytes-to_le_bytes_8, mul-lt}
use Rattle.std.proofs.Math.Nat.{eq_of_mul-eq-mul_left}
use Rattle.cck_digest.proofs.ReadsBack.{ReadsBack, bytes_read_back}
use Rattle.cck_cache_rules.specs.Checksum.{ChecksumTellsOneWord, ChecksumTellsTwoWords, checksum, first_weight, second_weight, sums_of, weighted_sum, words}

abbrev IsByte : ℕ → Type 0
IsByte byte = byte < 256

abbrev IsWord : ℕ → Type 0
IsWord word = word < 2 ^ 32

-- the words of bytes are words
words_fit : (bytes : List ℕ) → All IsByte bytes → All IsWord (words bytes)
words_fit [] fit = All-nil IsWord
words_fit (a ∷ []) fit = All-cons IsWord _ [] (omega (arith, fit 0 0 (omega arith))) (All-nil IsWord)
words_fit (a ∷ b ∷ []) fit = All-cons IsWord _ [] (omega (arith, fit 0 0 (omega arith), fit 1 0 (omega arith))) (All-nil IsWord)
words_fit (a ∷ b ∷ c ∷ []) fit = All-cons IsWord _ [] (omega (arith, fit 0 0 (omega arith), fit 1 0 (omega arith), fit 2 0 (omega arith))) (All-nil IsWord)
words_fit (a ∷ b ∷ c ∷ d ∷ rest) fit =
    All-cons IsWord _ (words rest) (omega (arith, fit 0 0 (omega arith), fit 1 0 (omega arith), fit 2 0 (omega arith), fit 3 0 (omega arith)))
    (words_fit rest (λ k e within. fit (suc (suc (suc (suc k)))) e (omega arith)))

-- what holds of all holds of one, and of those after it
middle : (P : ℕ → Type 0) (before after : List ℕ) (v : ℕ) → All P (before ++ v ∷ after) → P v × All P after
middle P [] after v all = (all 0 0 (omega arith), λ k e within. all (suc k) e (omega arith))
middle P (b ∷ before) after v all = middle P before after v (λ k e within. all (suc k) e (omega arith))

-- one word in place of another, and what follows it
changed_word : (weight : ℕ → ℕ) (before rest others : List ℕ) (v w : ℕ) → length rest ≡ length others
    → weighted_sum weight (before ++ v ∷ rest) + (weight (length rest + 1) * w + weighted_sum weight others) ≡ weighted_sum weight (before ++ w ∷ others) + (weight (length rest + 1) * v + weighted_sum weight rest)
changed_word weight [] rest others v w same =
    let turned : weight (length others + 1) * w ≡ weight (length rest + 1) * w = ap (λ n. weight (n + 1) * w) (sym same) in
    omega (arith, turned)
changed_word weight (b ∷ before) rest others v w same =
    let as_long : length (before ++ v ∷ rest) ≡ length (before ++ w ∷ others) = omega (arith, length-append before (v ∷ rest), length-append before (w ∷ others)) in
    let turned : weight (length (before ++ v ∷ rest) + 1) * b ≡ weight (length (before ++ w ∷ others) + 1) * b = ap (λ n. weight (n + 1) * b) as_long in
    omega (arith, turned, changed_word weight before rest others v w same)

-- the first two sums, from the bytes of all
number_back : (a b : ℕ) → a < 2 ^ 64 → b < 2 ^ 64 → ReadsBack (to_le_bytes w64) a b
number_back a b p q s t e =
    let both = bytes_read_back (to_le_bytes w64 a) (to_le_bytes w64 b) s t refl e in
    (sym (from_le_bytes-to_le_bytes_8 a p) ∙ ap (from_le_bytes w64) both.0 ∙ from_le_bytes-to_le_bytes_8 b q, both.1)

module _ (x y : List ℕ) (same : checksum x ≡ checksum y) where
  sums_same : (weighted_sum first_weight (words x) % 2 ^ 64 ≡ weighted_sum first_weight (words y) % 2 ^ 64)
      × (weighted_sum second_weight (words x) % 2 ^ 64 ≡ weighted_sum second_weight (words y) % 2 ^ 64)
  unfolding checksum sums_of
  sums_same =
      let first = number_back (weighted_sum first_weight (words x) % 2 ^ 64) (weighted_sum first_weight (words y) % 2 ^ 64) (omega arith) (omega arith) _ _ same in
      let second = number_back (weighted_sum second_weight (words x) % 2 ^ 64) (weighted_sum second_weight (words y) % 2 ^ 64) (omega arith) (omega arith) _ _ first.1 in
      (first.0, second.0)

  -- the same of the words as lists that they are equal to
  listed : (xs ys : List ℕ) → words x ≡ xs → words y ≡ ys → (weighted_sum first_weight xs % 2 ^ 64 ≡ weighted_sum first_weight ys % 2 ^ 64)
      × (weighted_sum second_weight xs % 2 ^ 64 ≡ weighted_sum second_weight ys % 2 ^ 64)
  listed xs ys x_is y_is = rw (← x_is, ← y_is) sums_same

pub one_word : ChecksumTellsOneWord
one_word x y before after v w x_fits y_fits x_is y_is apart same =
    let v_fits : v < 2 ^ 32 = (middle IsWord before after v (subst (All IsWord) x_is (words_fit x x_fits))).0 in
    let w_fits : w < 2 ^ 32 = (middle IsWord before after w (subst (All IsWord) y_is (words_fit y y_fits))).0 in
    let sums = listed x y same (before ++ v ∷ after) (before ++ w ∷ after) x_is y_is in
    apart (omega (arith, sums.0, changed_word first_weight before after after v w refl))

-- two words of the same sum, each as often as its number says
weights_tell : (n k v w other known a b s : ℕ) → a % 2 ^ 64 ≡ b % 2 ^ 64 → a + ((n + k) * w + n * known) ≡ b + ((n + k) * v + n * other) → v + other ≡ s → w + known ≡ s
    → 0 < k → k < 2 ^ 32 → v < 2 ^ 32 → w < 2 ^ 32 → v ≡ w
weights_tell n k v w other known a b s same is first second some few v_fits w_fits =
    let old : (n + k) * v + n * other ≡ n * s + k * v = omega (arith, add-mul n k v, mul-add n v other, ap (λ m. n * m) first) in
    let new : (n + k) * w + n * known ≡ n * s + k * w = omega (arith, add-mul n k w, mul-add n w known, ap (λ m. n * m) second) in
    let old_fits : k * v < 2 ^ 64 = mul-lt k v (2 ^ 32) (2 ^ 32) few v_fits in
    let new_fits : k * w < 2 ^ 64 = mul-lt k w (2 ^ 32) (2 ^ 32) few w_fits in
    eq_of_mul-eq-mul_left k some v w (omega arith)

pub two_words : ChecksumTellsTwoWords
two_words x y before between after v w other known x_fits y_fits few x_is y_is apart same =
    let rest = between ++ other ∷ after in
    let others = between ++ known ∷ after in
    let n = length after + 1 in
    let k = length between + 1 in
    let (v_fits, rest_fits) = middle IsWord before rest v (subst (All IsWord) x_is (words_fit x x_fits)) in
    let (w_fits, others_fit) = middle IsWord before others w (subst (All IsWord) y_is (words_fit y y_fits)) in
    let (other_fits, _) = middle IsWord between after other rest_fits in
    let (known_fits, _) = middle IsWord between after known others_fit in
    let sums = listed x y same (before ++ v ∷ rest) (before ++ w ∷ others) x_is y_is in
    let rest_long : length rest + 1 ≡ n + k = omega (arith, length-append between (other ∷ after)) in
    let others_long : length others ≡ length rest = omega (arith, length-append between (other ∷ after), length-append between (known ∷ after)) in
    let as_many : v + other ≡ w + known =
    omega (arith, sums.0, changed_word first_weight before rest others v w (sym others_long), changed_word first_weight between after after other known refl)
    in
    let by_place : weighted_sum second_weight (before ++ v ∷ rest) + ((n + k) * w + n * known) ≡ weighted_sum second_weight (before ++ w ∷ others) + ((n + k) * v + n * other) =
    omega (arith, changed_word second_weight before rest others v w (sym others_long), changed_word second_weight between after after other known refl, ap (λ m. m * v) rest_long, ap (λ m. m * w) rest_long)
    in
    let few_between : k < 2 ^ 32 = omega (arith, ap length x_is, length-append before (v ∷ rest)) in
    apart (weights_tell n k v w other known _ _ (w + known) sums.1 by_place as_many refl (omega arith) few_between v_fits w_fits)
