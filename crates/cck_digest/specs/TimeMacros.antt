-- the time macros in a stream
use Rattle.std.specs.Prelude.{◌≡◌, ℕ, ◌-◌, List, [], ◌∷◌, ◌++◌, ◌↔◌, ◌||◌, Bool, IsTrue, length, drop, codes, nat_eq}
use Rattle.std.specs.List.{starts_with}

-- the word is a contiguous part of the text
abbrev pub Has : List ℕ → List ℕ → Type 0
Has text word = (before : List ℕ) × (after : List ℕ) × (text ≡ before ++ (word ++ after))

-- the same as a Boolean function
abbrev pub has : List ℕ → List ℕ → Bool
has [] word = starts_with nat_eq [] word
has (byte ∷ text) word = starts_with nat_eq (byte ∷ text) word || has text word

-- the Boolean function is true exactly if the word is a part of the text
abbrev pub HasIsTested : Type 0
HasIsTested = (text word : List ℕ) → IsTrue (has text word) ↔ Has text word

abbrev pub time_macro : List ℕ
time_macro = codes "__TIME__"

abbrev pub date_macro : List ℕ
date_macro = codes "__DATE__"

abbrev pub timestamp_macro : List ℕ
timestamp_macro = codes "__TIMESTAMP__"

-- the last 12 bytes of a stream, or all of a shorter one
abbrev pub last_bytes : List ℕ → List ℕ
last_bytes stream = drop (length stream - 12) stream

-- the state of a finder: the macros that were found, and the last bytes of the stream
pub record Seen : Type 0 where
  pub time : Bool
  pub date : Bool
  pub timestamp : Bool
  pub tail : List ℕ

-- this is the state of a finder after this stream
pub record Follows (seen : Seen) (stream : List ℕ) : Type 0 where
  pub time : IsTrue seen.time ↔ Has stream time_macro
  pub date : IsTrue seen.date ↔ Has stream date_macro
  pub timestamp : IsTrue seen.timestamp ↔ Has stream timestamp_macro
  pub tail : seen.tail ≡ last_bytes stream
