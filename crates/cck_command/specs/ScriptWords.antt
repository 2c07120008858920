-- the words of a line and the text after them
use Rattle.std.specs.Prelude.{ℕ, ◌+◌, ◌==◌, List, [], ◌∷◌, Bool, true, false, if◌then◌else◌, take, drop, position, Option, Some, None, Ok, Err}
use Rattle.std.specs.List.{slice_split}
use Rattle.cck_path.specs.Bytes.{Bytes}
use Rattle.cck_path.specs.Escape.{Meaning, unescaped}

-- the text that an escaped text means, if its escapes are right
abbrev pub meaning_text : Meaning → Option Bytes
meaning_text (Ok text) = Some text
meaning_text (Err e) = None

abbrev pub is_nil : {X : Type 0} → List X → Bool
is_nil [] = true
is_nil (x ∷ xs) = false

-- a word: not empty, and unescaped
unfoldable pub word : Bytes → Option Bytes
word part = if is_nil part then None else meaning_text (unescaped part)

abbrev pub parts_at : Option ℕ → Bytes → Bytes × Option Bytes
parts_at None s = (s, None)
parts_at (Some i) s = (take i s, Some (drop (i + 1) s))

-- what is before the first separator, and what is after it if there is one
unfoldable pub cut : ℕ → Bytes → Bytes × Option Bytes
cut separator s = parts_at (position (λ b. b == separator) s) s

abbrev pub with_rest : Option Bytes → Option Bytes → Option (Bytes × Option Bytes)
with_rest None rest = None
with_rest (Some w) rest = Some (w, rest)

abbrev pub word_in : Bytes × Option Bytes → Option (Bytes × Option Bytes)
word_in p = with_rest (word p.0) p.1

-- what follows from a value, if there is one
abbrev pub and_then : {A B : Type 0} → Option A → (A → Option B) → Option B
and_then None go = None
and_then (Some x) go = go x

-- the next word, and what is left of the line after its space
unfoldable pub next_word : Option Bytes → Option (Bytes × Option Bytes)
next_word None = None
next_word (Some s) = word_in (cut 32 s)

-- the text that is left, which is empty if the line ended before
unfoldable pub last_text : Option Bytes → Option Bytes
last_text None = Some []
last_text (Some s) = meaning_text (unescaped s)

abbrev pub with_word : Option Bytes → Option (List Bytes) → Option (List Bytes)
with_word None rest = None
with_word (Some w) None = None
with_word (Some w) (Some ws) = Some (w ∷ ws)

-- these parts as words, if each is one
abbrev pub all_words : List Bytes → Option (List Bytes)
all_words [] = Some []
all_words (part ∷ parts) = with_word (word part) (all_words parts)

-- all words that are left, at least one
unfoldable pub words : Option Bytes → Option (List Bytes)
words None = None
words (Some s) = all_words (slice_split (λ b. b == 32) s)
