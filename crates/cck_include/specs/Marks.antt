-- the marks of a preprocessed text, as a grammar over what is left of it
use Rattle.std.specs.Prelude.{◌≡◌, ◌≢◌, ℕ, Bool, true, false, ◌&&◌, ◌||◌, ◌==◌, if◌then◌else◌, nat_eq, nat_le, nat_lt, List, [], ◌∷◌, ◌++◌, length, get_or, All, codes}
use Rattle.std.specs.List.{starts_with}

-- what a text says: the name of a file, and whether a system header has it; that the text is refused, for a file that no marker names; or that a marker is malformed
pub data Mark : Type 0 where
  Name : List ℕ → Bool → Mark
  Refusal : Mark
  Malformed : Mark

abbrev pub is_digit : ℕ → Bool
is_digit byte = nat_le 48 byte && nat_le byte 57

-- the beginnings of a line marker: `# ` and a digit, and two words
unfoldable pub is_marker : List ℕ → Bool
is_marker text = (starts_with nat_eq text (codes "# ") && is_digit (get_or text 2 0))
    || starts_with nat_eq text (codes "#pragma GCC pch_preprocess")
    || starts_with nat_eq text (codes "#line ")

-- ten underscores, by which compilers that send work elsewhere mark their own lines
unfoldable pub is_hidden : List ℕ → Bool
is_hidden text = starts_with nat_eq text (codes "__________")

-- `.incbin` and then a quote, with nothing, a space, or a space and a backslash between them
unfoldable pub is_inclusion : List ℕ → Bool
is_inclusion text = starts_with nat_eq text (codes ".incbin" ++ 34 ∷ [])
    || starts_with nat_eq text (codes ".incbin " ++ 34 ∷ [])
    || starts_with nat_eq text (codes ".incbin " ++ 92 ∷ 34 ∷ [])

-- what is at a place: too few bytes to be looked at, a line marker, a line that is skipped, the inclusion of a file's bytes, or any other byte
pub data What : Type 0 where
  Short : What
  Marker : What
  Hidden : What
  Inclusion : What
  Plain : What

-- what the rest of a text begins with, by whether a line starts there
unfoldable pub what : Bool → List ℕ → What
what starts_line text =
    if nat_lt (length text) 7 then Short else
    if starts_line && is_marker text then Marker else
    if starts_line && is_hidden text then Hidden else
    if is_inclusion text then Inclusion else Plain

-- bytes with neither a quote nor a line's end, with no line's end, and with no quote
abbrev pub IsFree : List ℕ → Type 0
IsFree bytes = All (λ byte. (byte ≢ 34) × (byte ≢ 10)) bytes

abbrev pub IsOneLine : List ℕ → Type 0
IsOneLine bytes = All (λ byte. byte ≢ 10) bytes

abbrev pub IsUnquoted : List ℕ → Type 0
IsUnquoted bytes = All (λ byte. byte ≢ 34) bytes

-- no bytes, or bytes that start with a quote
abbrev pub IsClosed : List ℕ → Type 0
IsClosed [] = Unit {0}
IsClosed (byte ∷ bytes) = byte ≡ 34

-- there is a `3` before the line's end
abbrev pub has_three : List ℕ → Bool
has_three [] = false
has_three (byte ∷ bytes) = if byte == 10 then false else if byte == 51 then true else has_three bytes

-- there is a `3` between the quote that begins this and the line's end
abbrev pub is_system : List ℕ → Bool
is_system [] = false
is_system (quote ∷ following) = has_three following

-- a marker whose line ends before any quote
pub record Unnamed (text : List ℕ) : Type 0 where
  pub front : List ℕ
  pub rest : List ℕ
  pub is : text ≡ front ++ 10 ∷ rest
  pub free : IsFree front

-- a marker with a name, which runs from its line's first quote to the next one, or to the end; the marker is not a single quote at the text's end
pub record Named (text : List ℕ) : Type 0 where
  pub front : List ℕ
  pub name : List ℕ
  pub rest : List ℕ
  pub is : text ≡ front ++ 34 ∷ (name ++ rest)
  pub free : IsFree front
  pub unquoted : IsUnquoted name
  pub closed : IsClosed rest
  pub some : name ++ rest ≢ []

-- the marks of what is left of a text, up to the first that isn't a name, by whether a line starts there
pub data Marks : Bool → List ℕ → List Mark → Type 0 where
  at_end : {starts_line : Bool} {text : List ℕ} {marks : List Mark} → what starts_line text ≡ Short → marks ≡ [] → Marks starts_line text marks
  unnamed : {starts_line : Bool} {text : List ℕ} {marks : List Mark} → what starts_line text ≡ Marker → (marker : Unnamed text) → Marks false (10 ∷ marker.rest) marks → Marks starts_line text marks
  named : {starts_line : Bool} {text : List ℕ} {marks : List Mark} → what starts_line text ≡ Marker → (marker : Named text) (more : List Mark) → Marks false marker.rest more
      → marks ≡ Name marker.name (is_system marker.rest) ∷ more → Marks starts_line text marks
  malformed : {starts_line : Bool} {text : List ℕ} {marks : List Mark} → what starts_line text ≡ Marker → (Unnamed text → ⊥) → (Named text → ⊥) → marks ≡ Malformed ∷ [] → Marks starts_line text marks
  hidden : {starts_line : Bool} {text : List ℕ} {marks : List Mark} → what starts_line text ≡ Hidden → (front rest : List ℕ) → text ≡ front ++ 10 ∷ rest → IsOneLine front → Marks true rest marks → Marks starts_line text marks
  hidden_to_end : {starts_line : Bool} {text : List ℕ} {marks : List Mark} → what starts_line text ≡ Hidden → IsOneLine text → marks ≡ [] → Marks starts_line text marks
  refused : {starts_line : Bool} {text : List ℕ} {marks : List Mark} → what starts_line text ≡ Inclusion → marks ≡ Refusal ∷ [] → Marks starts_line text marks
  plain : {starts_line : Bool} {text : List ℕ} {marks : List Mark} → what starts_line text ≡ Plain → (byte : ℕ) (rest : List ℕ) → text ≡ byte ∷ rest → Marks (byte == 10) rest marks → Marks starts_line text marks

-- a text has exactly one list of marks
abbrev pub HasOneList : Type 0
HasOneList = (starts_line : Bool) (text : List ℕ) → (marks : List Mark) × Marks starts_line text marks × ((others : List Mark) → Marks starts_line text others → others ≡ marks)
