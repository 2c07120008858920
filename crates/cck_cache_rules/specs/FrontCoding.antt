-- front coding: texts of which each is written without the beginning that it shares with the one before
use Rattle.std.specs.Prelude.{ℕ, List, [], ◌∷◌, ◌++◌, cond, drop, length, nat_eq, nat_lt}
use Rattle.std.specs.List.{common_prefix_len}
use Rattle.cck_digest.specs.Frames.{framed_list, length_bytes}

-- how many bytes at its beginning a text shares with the one before, and what follows these
abbrev pub front_part : List ℕ → List ℕ → ℕ × List ℕ
front_part before text = (common_prefix_len nat_eq before text, drop (common_prefix_len nat_eq before text) text)

-- the parts of texts, the first of which has this one before it
abbrev pub front_coded : List ℕ → List (List ℕ) → List (ℕ × List ℕ)
front_coded before [] = []
front_coded before (text ∷ texts) = front_part before text ∷ front_coded text texts

-- a number below 255 as one byte, and another one as the byte 255 and its 8 bytes
abbrev pub short_length : ℕ → List ℕ
short_length n = cond (nat_lt n 255) (n ∷ []) (255 ∷ length_bytes n)

-- bytes after their length
abbrev pub short_frame : List ℕ → List ℕ
short_frame bytes = short_length (length bytes) ++ bytes

-- the bytes of a part: the number, and the rest after its length
abbrev pub front_bytes : ℕ × List ℕ → List ℕ
front_bytes part = short_length part.0 ++ short_frame part.1

-- the count of these texts, and their parts, the first of which has no text before it
abbrev pub framed_front_coded : List (List ℕ) → List ℕ
framed_front_coded texts = framed_list front_bytes (front_coded [] texts)
