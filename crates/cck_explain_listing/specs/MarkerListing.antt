-- the listing of the marks of a text
use Rattle.std.specs.Prelude.{◌≡◌, ◌&&◌, ◌==◌, ◌-◌, nat_le, Bool, List, [], ◌∷◌, ◌++◌, codes, length, slice_index, if◌then◌else◌}
use Rattle.std.specs.Fmt.{decimal}
use Rattle.std.specs.List.{flat_map}
use Rattle.std.specs.Ordering.{eq_by_cmp}
use Rattle.cck_explain_listing.specs.Quoted.{quoted}
use Rattle.cck_include.specs.declared.mark.Mark.{Mark}
use Rattle.cck_include.specs.declared.mark.Mark.TheVariants.{Name, Refusal, Malformed}
use Rattle.cck_path.specs.Bytes.{Bytes}
use Rattle.cck_path.specs.Path.{Path, components, joined, normal, path_cmp}
use Rattle.cck_path.specs.Text.{path_text}
use Rattle.cck_explain_listing.specs.Place.{ArePlacedMarks}
use Rattle.cck_explain_listing.specs.declared.place.PlacedMark.{PlacedMark}

-- the path that a name means, joined to the working directory and normalised
abbrev pub named_path : Bytes → Bytes → Path
named_path cwd name = normal (joined (components cwd) (components name))

-- the name is enclosed in `<` and `>`
unfoldable pub is_bracketed : Bytes → Bool
is_bracketed name = nat_le 2 (length name) && (slice_index name 0 == 60) && (slice_index name (length name - 1) == 62)

-- what a path counts as: the input itself, a system header, or another file
abbrev pub path_word : Bool → Bool → Bytes
path_word is_input is_system = if is_input then codes "input" else if is_system then codes "system" else codes "file"

-- a name that means a path, by what the path counts as, with the path
abbrev pub path_words : Path → Path → Bytes → Bool → Bytes
path_words input path name is_system =
    path_word (eq_by_cmp path_cmp path input) is_system ++ codes " " ++ quoted name ++ codes " " ++ quoted (path_text path)

-- a name by what it counts as
abbrev pub name_words : Bytes → Bytes → Bytes → Bool → Bytes
name_words input cwd name is_system =
    if length name == 0 then codes "empty " ++ quoted name else
    if is_bracketed name then codes "angled " ++ quoted name else
    path_words (named_path cwd input) (named_path cwd name) name is_system

-- a mark by what it says
abbrev pub mark_words : Bytes → Bytes → Mark → Bytes
mark_words input cwd (Name name is_system) = name_words input cwd name.now is_system
mark_words input cwd Refusal = codes "incbin"
mark_words input cwd Malformed = codes "malformed"

-- the line of a mark
abbrev pub mark_line : Bytes → Bytes → PlacedMark → Bytes
mark_line input cwd placed =
    decimal placed.position.line ++ codes ":" ++ decimal placed.position.column ++ codes " " ++ mark_words input cwd placed.mark ++ 10 ∷ []

-- the lines of the marks of a text
abbrev pub AreMarkerLines : Bytes → Bytes → Bytes → Bytes → Type 0
AreMarkerLines input cwd text lines = (placed : List PlacedMark) × ArePlacedMarks text placed × (lines ≡ flat_map (mark_line input cwd) placed)
