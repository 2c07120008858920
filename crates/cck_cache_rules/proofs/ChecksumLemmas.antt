-- What one more word does to the sums, and which words bytes have.
use Rattle.std.proofs.Common.{◌≡◌, ℕ, zero, suc, ◌+◌, ◌*◌, ◌/◌, ◌%◌, ◌^◌, ◌<◌, ◌≤◌, get_or, List, [], ◌∷◌, ◌++◌, length, map, take, drop, refl, sym, ap, ◌∙◌, arith, length-append, add-mul, mul-add, mul_comm, mul_assoc, zero-add}
use Rattle.std.specs.Int.{from_le_bytes, w32}
use Rattle.std.specs.Simd.{first_chunks}
use Rattle.std.proofs.lemmas.List.{take_all}
use Rattle.cck_cache_rules.specs.Checksum.{first_weight, second_weight, third_weight, fourth_weight, sums_of, weighted_sum, words}
use Rattle.cck_cache_rules.specs.declared.checksum.Sums.{Sums}

-- weights that grow by other weights from one word to the one before it
record GrowsBy (f g : ℕ → ℕ) : Type 0 where
  pub none : f 0 ≡ 0
  pub step : (i : ℕ) → f (i + 1) ≡ f i + g (i + 1)

-- the next of two neighbours' product, and of three
next_pair : (i : ℕ) → (i + 1) * (i + 1 + 1) ≡ i * (i + 1) + 2 * (i + 1)
next_pair i =
    let apart : (i + 1) * (i + 2) ≡ (i + 1) * i + (i + 1) * 2 = mul-add (i + 1) i 2 in
    omega (arith, apart, mul_comm (i + 1) i)

next_three : (i : ℕ) → (i + 1) * (i + 1 + 1) * (i + 1 + 2) ≡ i * (i + 1) * (i + 2) + 3 * ((i + 1) * (i + 1 + 1))
next_three i =
    let both = (i + 1) * (i + 2) in
    let apart : both * (i + 3) ≡ both * i + both * 3 = mul-add both i 3 in
    let turned : both * i ≡ i * (i + 1) * (i + 2) = mul_comm both i ∙ sym (mul_assoc i (i + 1) (i + 2)) in
    omega (arith, apart, turned)

pair_is_even : (i : ℕ) → i * (i + 1) ≡ 2 * (i * (i + 1) / 2)
pair_is_even zero = refl
pair_is_even (suc i) =
    let next = next_pair i in let before = pair_is_even i in
    omega (arith, next, before)

second_grows : GrowsBy second_weight first_weight
second_grows = record { none = refl; step = λ i. refl }

third_grows : GrowsBy third_weight second_weight
third_grows = record { none = refl; step = λ i. let next = next_pair i in omega (arith, next) }

fourth_grows : GrowsBy fourth_weight third_weight
fourth_grows = record { none = refl; step = λ i. let next = next_three i in let even = pair_is_even (i + 1) in omega (arith, next, even) }

first_sum-append : (ws : List ℕ) (w : ℕ) → weighted_sum first_weight (ws ++ w ∷ []) ≡ weighted_sum first_weight ws + w
first_sum-append [] w = omega arith
first_sum-append (v ∷ ws) w = omega (arith, first_sum-append ws w)

weighted_sum-append : (f g : ℕ → ℕ) → GrowsBy f g → (ws : List ℕ) (w : ℕ) → weighted_sum f (ws ++ w ∷ []) ≡ weighted_sum f ws + weighted_sum g (ws ++ w ∷ [])
weighted_sum-append f g grows [] w =
    let one : f 1 * w ≡ g 1 * w = ap (λ n. n * w) (grows.step 0 ∙ ap (λ n. n + g 1) grows.none ∙ zero-add (g 1)) in
    omega (arith, one)
weighted_sum-append f g grows (v ∷ ws) w =
    let n = length (ws ++ w ∷ []) in
    let more : n ≡ length ws + 1 = length-append ws (w ∷ []) in
    let grown : f (n + 1) * v ≡ f n * v + g (n + 1) * v = ap (λ k. k * v) (grows.step n) ∙ add-mul (f n) (g (n + 1)) v in
    let same : f n * v ≡ f (length ws + 1) * v = ap (λ k. f k * v) more in
    omega (arith, grown, same, weighted_sum-append f g grows ws w)

-- the sums after one more word
pub sums_of-append : (ws : List ℕ) (w : ℕ) (before : Sums) → before ≡ sums_of ws → (first second third fourth : ℕ)
    → first ≡ (before.first + w) % 2 ^ 64 → second ≡ (before.second + first) % 2 ^ 64 → third ≡ (before.third + second) % 2 ^ 64 → fourth ≡ (before.fourth + third) % 2 ^ 64
    → ◌≡◌ {A = Sums} (record { first = first; second = second; third = third; fourth = fourth }) (sums_of (ws ++ w ∷ []))
unfolding sums_of
sums_of-append ws w before is first second third fourth e1 e2 e3 e4 =
    let first_is : first ≡ weighted_sum first_weight (ws ++ w ∷ []) % 2 ^ 64 =
    omega (arith, ap (λ (s : Sums). s.first) is, first_sum-append ws w) in
    let second_is : second ≡ weighted_sum second_weight (ws ++ w ∷ []) % 2 ^ 64 =
    omega (arith, ap (λ (s : Sums). s.second) is, weighted_sum-append second_weight first_weight second_grows ws w) in
    let third_is : third ≡ weighted_sum third_weight (ws ++ w ∷ []) % 2 ^ 64 =
    omega (arith, ap (λ (s : Sums). s.third) is, weighted_sum-append third_weight second_weight third_grows ws w) in
    let fourth_is : fourth ≡ weighted_sum fourth_weight (ws ++ w ∷ []) % 2 ^ 64 =
    omega (arith, ap (λ (s : Sums). s.fourth) is, weighted_sum-append fourth_weight third_weight fourth_grows ws w) in
    λ i. record { first = first_is i; second = second_is i; third = third_is i; fourth = fourth_is i }

-- the words of bytes, of which as many as k are whole
pub words_from_chunks : (k : ℕ) (bytes : List ℕ) → 4 * k ≤ length bytes → words bytes ≡ map (from_le_bytes w32) (first_chunks 4 k bytes) ++ words (drop (k * 4) bytes)
words_from_chunks zero bytes enough = refl
words_from_chunks (suc k) [] enough = absurd (omega arith)
words_from_chunks (suc k) (a ∷ []) enough = absurd (omega arith)
words_from_chunks (suc k) (a ∷ b ∷ []) enough = absurd (omega arith)
words_from_chunks (suc k) (a ∷ b ∷ c ∷ []) enough = absurd (omega arith)
words_from_chunks (suc k) (a ∷ b ∷ c ∷ d ∷ rest) enough =
    let more : suc (suc (suc (suc (k * 4)))) ≡ suc k * 4 = omega arith in
    let word = from_le_bytes w32 (a ∷ b ∷ c ∷ d ∷ []) in
    ap (λ ws. word ∷ ws) (words_from_chunks k rest (omega arith))
    ∙ ap (λ n. word ∷ (map (from_le_bytes w32) (first_chunks 4 k rest) ++ words (drop n (a ∷ b ∷ c ∷ d ∷ rest)))) more

-- the word that is filled with zero bytes
pub last_word : (rest : List ℕ) → (rest ≡ [] → ⊥) → length rest < 4 → words rest ≡ from_le_bytes w32 (get_or rest 0 0 ∷ get_or rest 1 0 ∷ get_or rest 2 0 ∷ 0 ∷ []) ∷ []
last_word [] some few = absurd (some refl)
last_word (a ∷ []) some few = refl
last_word (a ∷ b ∷ []) some few = refl
last_word (a ∷ b ∷ c ∷ []) some few = refl
last_word (a ∷ b ∷ c ∷ d ∷ rest) some few = absurd (omega arith)

-- the words of bytes, from whole words that were all taken, and the words of the bytes after them
pub words_from_parts : (bytes rest : List ℕ) (whole : List (List ℕ)) (i : ℕ) → whole ≡ first_chunks 4 (length bytes / 4) bytes → rest ≡ drop (length bytes / 4 * 4) bytes → length whole ≤ i
    → map (from_le_bytes w32) (take i whole) ++ words rest ≡ words bytes
words_from_parts bytes rest whole i whole_is rest_is all =
    ap (λ (cs : List (List ℕ)). map (from_le_bytes w32) cs ++ words rest) (take_all i whole all ∙ whole_is)
    ∙ ap (λ (r : List ℕ). map (from_le_bytes w32) (first_chunks 4 (length bytes / 4) bytes) ++ words r) rest_is
    ∙ sym (words_from_chunks (length bytes / 4) bytes (omega arith))
