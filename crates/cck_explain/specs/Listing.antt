-- parts of a text and their listing
use Rattle.std.specs.Prelude.{ℕ, zero, suc, ◌+◌, ◌-◌, ◌/◌, List, [], ◌∷◌, ◌++◌, Bool, true, false, codes, length, take, drop, nat_le, if◌then◌else◌}
use Rattle.std.specs.Fmt.{decimal}
use Rattle.std.specs.List.{flat_map}
use Rattle.cck_path.specs.Bytes.{Bytes}
use Rattle.cck_explain_listing.specs.Checksum.{checksum}
use Rattle.cck_explain_listing.specs.Quoted.{quoted}

-- some bytes of a text, and what they are
pub record Part : Type 0 where
  pub name : Bytes
  pub bytes : Bytes

-- the bytes of these parts, one after the other
abbrev pub bytes_of_parts : List Part → Bytes
bytes_of_parts parts = flat_map (λ part. part.bytes) parts

-- the greatest number of bytes that a line shows
abbrev pub row_size : ℕ
row_size = 256

-- what a line shows of bytes: their escape in quotation marks, or their checksum
abbrev pub shown : Bytes → Bytes
shown bytes = if nat_le (length bytes) row_size then quoted bytes else codes "checksum " ++ decimal (checksum bytes)

-- the line of bytes with this name at this offset
abbrev pub part_line : ℕ → Bytes → Bytes → Bytes
part_line offset name bytes =
    decimal offset ++ codes " " ++ decimal (length bytes) ++ codes " " ++ name ++ codes " " ++ shown bytes ++ 10 ∷ []

-- the lines of parts, the first of which is at this offset
abbrev pub part_lines : ℕ → List Part → Bytes
part_lines offset [] = []
part_lines offset (part ∷ parts) =
    part_line offset part.name part.bytes ++ part_lines (offset + length part.bytes) parts

-- the part cut into n parts of row_size bytes and one with the rest
abbrev pub cut_into : ℕ → Bytes → Bytes → List Part
cut_into zero name bytes = record { name = name; bytes = bytes } ∷ []
cut_into (suc n) name bytes = record { name = name; bytes = take row_size bytes } ∷ cut_into n name (drop row_size bytes)

-- the part cut after every row_size bytes
abbrev pub rows : Part → List Part
rows part = cut_into ((length part.bytes - 1) / row_size) part.name part.bytes

-- what is listed of a part: the whole of it, or its rows
abbrev pub listed_part : Bool → Part → List Part
listed_part false part = part ∷ []
listed_part true part = rows part

-- what is listed of parts
abbrev pub listed_parts : Bool → List Part → List Part
listed_parts is_full parts = flat_map (listed_part is_full) parts
