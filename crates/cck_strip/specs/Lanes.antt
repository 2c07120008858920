-- places of a word, a bit for each
use Rattle.std.specs.Prelude.{◌≡◌, ℕ, ◌+◌, ◌<◌, List}
use Rattle.std.specs.Int.{bit_at}
use Rattle.memchr.specs.Find.{OccursAt}

-- of the 64 places from `at` on, the bit of each where the word occurs is set
abbrev pub MarksWord : List ℕ → List ℕ → ℕ → ℕ → Type 0
MarksWord text word at marks = (k : ℕ) → k < 64 → OccursAt text word (at + k) → bit_at marks k ≡ 1
