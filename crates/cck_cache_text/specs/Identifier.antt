-- identifiers and blanks at the ends of a text
use Rattle.std.specs.Prelude.{ℕ, Bool, ◌&&◌, ◌||◌, ◌==◌, nat_eq, nat_le, List, [], ◌∷◌, length, take, drop, reverse, Option, Some, None, if◌then◌else◌}
use Rattle.std.specs.Char.{is_ascii_alphanumeric}
use Rattle.std.specs.List.{ends_with}
use Rattle.cck_cache_text.specs.Splices.{is_blank, run_length}

abbrev pub is_word_byte : ℕ → Bool
is_word_byte byte = is_ascii_alphanumeric byte || byte == 95 || byte == 36

-- the identifier at the front of a text, which may be empty
abbrev pub word_of : List ℕ → List ℕ
word_of text = take (run_length is_word_byte text) text

-- what follows it
abbrev pub rest_of_word : List ℕ → List ℕ
rest_of_word text = drop (run_length is_word_byte text) text

-- a text without the blanks at its front
abbrev pub after_blanks : List ℕ → List ℕ
after_blanks text = drop (run_length is_blank text) text

-- a text without this byte at its front
abbrev pub stripped : ℕ → List ℕ → Option (List ℕ)
stripped first [] = None
stripped first (byte ∷ rest) = if byte == first then Some rest else None

-- an identifier may begin after this text
abbrev pub is_start : List ℕ → Bool
is_start before = run_length is_word_byte (reverse before) == 0

-- a byte may be a part of an identifier, in which gcc also allows characters that are no ASCII
abbrev pub is_part_byte : ℕ → Bool
is_part_byte byte = is_word_byte byte || nat_le 128 byte

-- a text ends in this identifier
abbrev pub ends_in_word : List ℕ → List ℕ → Bool
ends_in_word text word = run_length is_part_byte (reverse text) == length word && ends_with nat_eq text word

-- what follows an identifier of at least one byte
abbrev pub after_word : List ℕ → Option (List ℕ)
after_word text = if run_length is_word_byte text == 0 then None else Some (rest_of_word text)
