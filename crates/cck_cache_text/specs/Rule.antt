-- the first rule of a make dependency file: a target, a colon, and the names of files
use Rattle.std.specs.Prelude.{◌≡◌, ℕ, Bool, true, false, not, ◌&&◌, ◌||◌, ◌==◌, nat_eq, if◌then◌else◌, List, [], ◌∷◌, ◌++◌, length, Option, Some, None, codes}
use Rattle.std.specs.List.{ends_with, flat_map, list_all, slice_split}
use Rattle.cck_cache_text.specs.declared.rule.Piece.{Piece}
use Rattle.cck_cache_text.specs.declared.rule.Piece.TheVariants.{One, Two}

-- a byte by itself: none that quotes another, no tab and no line feed
abbrev pub is_single : ℕ → Bool
is_single byte = not (byte == 9 || byte == 10 || byte == 36 || byte == 92)

-- a tab, a line feed, a space or `#`
abbrev pub is_quoted : ℕ → Bool
is_quoted byte = byte == 9 || byte == 10 || byte == 32 || byte == 35

-- a byte after a backslash; or `$` twice
abbrev pub is_pair : ℕ → ℕ → Bool
is_pair first second = (first == 92 && is_quoted second) || (first == 36 && second == 36)

abbrev pub is_piece : Piece → Bool
is_piece (One byte) = is_single byte
is_piece (Two first second) = is_pair first second

-- the bytes of a piece
abbrev pub piece_text : Piece → List ℕ
piece_text (One byte) = byte ∷ []
piece_text (Two first second) = first ∷ second ∷ []

-- a space, or a line that goes on in the next one: a name ends
abbrev pub is_gap : Piece → Bool
is_gap (One byte) = byte == 32
is_gap (Two first second) = second == 10

-- the byte of a name for which another piece stands
abbrev pub piece_byte : Piece → ℕ
piece_byte (One byte) = byte
piece_byte (Two first second) = second

-- a name of at least one byte
abbrev pub name_of : List ℕ → List (List ℕ)
name_of [] = []
name_of (byte ∷ name) = (byte ∷ name) ∷ []

-- the names in pieces, of which the first begins with these bytes
abbrev pub names_after : List ℕ → List Piece → List (List ℕ)
names_after begun [] = name_of begun
names_after begun (piece ∷ pieces) = if is_gap piece then name_of begun ++ names_after [] pieces else names_after (begun ++ piece_byte piece ∷ []) pieces

abbrev pub names_of : List Piece → List (List ℕ)
names_of pieces = names_after [] pieces

-- the colon of a target is followed by a space, a backslash or a line feed
abbrev pub begins_list : List ℕ → Bool
begins_list [] = false
begins_list (byte ∷ bytes) = byte == 32 || byte == 92 || byte == 10

-- what is after the first such colon
abbrev pub after_target : List ℕ → Option (List ℕ)
after_target [] = None
after_target (byte ∷ bytes) = if byte == 58 && begins_list bytes then Some bytes else after_target bytes

-- a line that is empty or a target without names
abbrev pub is_target : List ℕ → Bool
is_target line = length line == 0 || ends_with nat_eq line (codes ":")

abbrev pub are_targets : List ℕ → Bool
are_targets text = list_all is_target (slice_split (λ byte. byte == 10) text)

-- the end of a rule: a line feed, and after it no other names
abbrev pub ends_rule : List ℕ → Bool
ends_rule [] = false
ends_rule (byte ∷ bytes) = byte == 10 && are_targets bytes

-- a text whose first rule has these names
pub record IsRule (text : List ℕ) (names : List (List ℕ)) : Type 0 where
  pub pieces : List Piece
  pub rest : List ℕ
  pub are_pieces : list_all is_piece pieces ≡ true
  pub is : after_target text ≡ Some (flat_map piece_text pieces ++ rest)
  pub ends : ends_rule rest ≡ true
  pub are_names : names ≡ names_of pieces

-- the names of the first rule, or none where there is no such rule
abbrev pub IsRuleRead : List ℕ → Option (List (List ℕ)) → Type 0
IsRuleRead text None = (names : List (List ℕ)) → IsRule text names → ⊥
IsRuleRead text (Some found) = IsRule text found × ((names : List (List ℕ)) → IsRule text names → names ≡ found)
