-- key material from which the end of each part can be read
use Rattle.std.specs.Prelude.{ℕ, zero, suc, ◌/◌, ◌%◌, List, [], ◌∷◌, ◌++◌, length, Option, Some, None}
use Rattle.std.specs.List.{flat_map}

-- a number as k + 1 digits to the base 256, the lowest first. The last digit is all of the rest, so that different numbers have different digits.
-- Below 256 ^ (k + 1) each digit is a byte.
abbrev pub digits : ℕ → ℕ → List ℕ
digits zero n = n ∷ []
digits (suc k) n = n % 256 ∷ digits k (n / 256)

-- a length or a count as 8 digits to the base 256. Below 2 ^ 64, as every length and count of a program is, these are its 8 bytes, the lowest first.
unfoldable pub length_bytes : ℕ → List ℕ
length_bytes n = digits 7 n

-- bytes after their length
abbrev pub frame : List ℕ → List ℕ
frame bytes = length_bytes (length bytes) ++ bytes

-- the count of these items, and then what is written for each
abbrev pub framed_list : {A : Type 0} → (A → List ℕ) → List A → List ℕ
framed_list item items = length_bytes (length items) ++ flat_map item items

-- the byte 0 for `None`, else the byte 1 and the frame
abbrev pub framed_option : Option (List ℕ) → List ℕ
framed_option None = 0 ∷ []
framed_option (Some bytes) = 1 ∷ frame bytes
