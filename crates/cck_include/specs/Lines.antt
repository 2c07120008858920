-- what is read of one line marker
use Rattle.std.specs.Prelude.{◌≡◌, ◌≤◌, ℕ, ◌+◌, List, Bool, length}
use Rattle.cck_include.specs.Marks.{Named, Unnamed, is_system}
use Rattle.cck_include.specs.declared.line.Line.{Line}
use Rattle.cck_include.specs.declared.line.Line.TheVariants as line

-- a marker with no name, whose line ends at this place
abbrev pub IsUnnamedTo : List ℕ → ℕ → Type 0
IsUnnamedTo text end = (marker : Unnamed text) × (end ≡ length marker.front)

-- a marker with a name from one place up to another
pub record IsNamedAt (text : List ℕ) (begin end : ℕ) (marker : Named text) : Type 0 where
  pub begins : begin ≡ length marker.front + 1
  pub ends : end ≡ begin + length marker.name
  pub within : end ≤ length text

-- what a text says as a line marker
abbrev pub IsLine : List ℕ → Line → Type 0
IsLine text (line.Unnamed end) = IsUnnamedTo text end
IsLine text (line.Named begin end name is_system_in) =
    (marker : Named text) × IsNamedAt text begin end marker × (marker.name ≡ name.now) × (is_system marker.rest ≡ is_system_in)
IsLine text line.Malformed = (Unnamed text → ⊥) × (Named text → ⊥)

-- what was read of a marker, with a name as a list of bytes
pub data LineRead : Type 0 where
  UnnamedTo : ℕ → LineRead
  NamedFrom : ℕ → ℕ → List ℕ → Bool → LineRead
  MalformedLine : LineRead

abbrev pub read_of : Line → LineRead
read_of (line.Unnamed end) = UnnamedTo end
read_of (line.Named begin end name is_system_in) = NamedFrom begin end name.now is_system_in
read_of line.Malformed = MalformedLine
