-- Fletcher's checksum with four sums, as the file system ZFS has it
use Rattle.std.specs.Prelude.{◌≡◌, ◌≢◌, ℕ, ◌+◌, ◌*◌, ◌/◌, ◌%◌, ◌^◌, ◌<◌, List, [], ◌∷◌, ◌++◌, length, All}
use Rattle.std.specs.Int.{from_le_bytes, to_le_bytes, w32, w64}
use Rattle.std.specs.List.{flat_map}
use Rattle.cck_cache_rules.specs.declared.checksum.Sums.{Sums}

-- bytes as words of 4 bytes, the lowest first, and the last one filled with zero bytes
abbrev pub words : List ℕ → List ℕ
words [] = []
words (a ∷ []) = from_le_bytes w32 (a ∷ 0 ∷ 0 ∷ 0 ∷ []) ∷ []
words (a ∷ b ∷ []) = from_le_bytes w32 (a ∷ b ∷ 0 ∷ 0 ∷ []) ∷ []
words (a ∷ b ∷ c ∷ []) = from_le_bytes w32 (a ∷ b ∷ c ∷ 0 ∷ []) ∷ []
words (a ∷ b ∷ c ∷ d ∷ rest) = from_le_bytes w32 (a ∷ b ∷ c ∷ d ∷ []) ∷ words rest

-- the sum of all words, each taken as often as its number from the end says: the last word has the number 1
abbrev pub weighted_sum : (ℕ → ℕ) → List ℕ → ℕ
weighted_sum weight [] = 0
weighted_sum weight (w ∷ ws) = weight (length ws + 1) * w + weighted_sum weight ws

-- the four weights of the word with a number
abbrev pub first_weight : ℕ → ℕ
first_weight i = 1

abbrev pub second_weight : ℕ → ℕ
second_weight i = i

abbrev pub third_weight : ℕ → ℕ
third_weight i = i * (i + 1) / 2

abbrev pub fourth_weight : ℕ → ℕ
fourth_weight i = i * (i + 1) * (i + 2) / 6

-- the four sums modulo 2 ^ 64
unfoldable pub sums_of : List ℕ → Sums
sums_of ws = record {
  first = weighted_sum first_weight ws % 2 ^ 64;
  second = weighted_sum second_weight ws % 2 ^ 64;
  third = weighted_sum third_weight ws % 2 ^ 64;
  fourth = weighted_sum fourth_weight ws % 2 ^ 64;
}

-- the 8 bytes of each sum, the lowest first
abbrev pub sum_bytes : Sums → List ℕ
sum_bytes sums = flat_map (to_le_bytes w64) (sums.first ∷ sums.second ∷ sums.third ∷ sums.fourth ∷ [])

-- the checksum of bytes
unfoldable pub checksum : List ℕ → List ℕ
checksum bytes = sum_bytes (sums_of (words bytes))

-- The checksums of bytes differ if one word differs, and all others are the same.
abbrev pub ChecksumTellsOneWord : Type 0
ChecksumTellsOneWord =
    (x y before after : List ℕ) (v w : ℕ) → All (λ byte. byte < 256) x → All (λ byte. byte < 256) y
    → words x ≡ before ++ v ∷ after → words y ≡ before ++ w ∷ after → v ≢ w → checksum x ≢ checksum y

-- The same if two words may differ, and the first of them does, for less than 2 ^ 32 words.
abbrev pub ChecksumTellsTwoWords : Type 0
ChecksumTellsTwoWords =
    (x y before between after : List ℕ) (v w other known : ℕ) → All (λ byte. byte < 256) x → All (λ byte. byte < 256) y → length (words x) < 2 ^ 32
    → words x ≡ before ++ v ∷ (between ++ other ∷ after) → words y ≡ before ++ w ∷ (between ++ known ∷ after) → v ≢ w → checksum x ≢ checksum y
