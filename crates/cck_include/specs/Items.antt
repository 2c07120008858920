-- one item of a text: a marker, a line that is skipped, an inclusion, or a byte
use Rattle.std.specs.Prelude.{◌≡◌, ℕ, ◌≤◌, ◌<◌, Bool, List, [], ◌∷◌, length, drop, Option, Some, None}
use Rattle.cck_include.specs.Marks as marks
use Rattle.cck_include.specs.Marks.{Marks, Named, Unnamed, is_system, what}
use Rattle.cck_include.specs.Markers.{Yields, mark_of}
use Rattle.cck_include.specs.declared.item.Item.{Item}
use Rattle.cck_include.specs.declared.item.What.{What}
use Rattle.cck_include.specs.declared.item.What.TheVariants.{Short, Marker, Hidden, Inclusion, Plain}
use Rattle.cck_include.specs.declared.mark.Mark.{Mark}
use Rattle.cck_include.specs.declared.mark.Mark.TheVariants as mark

-- what a `What` says is at a place
abbrev pub what_of : What → marks.What
what_of Short = marks.Short
what_of Marker = marks.Marker
what_of Hidden = marks.Hidden
what_of Inclusion = marks.Inclusion
what_of Plain = marks.Plain

-- the marks of an item: one or none
abbrev pub marks_of : Option Mark → List marks.Mark
marks_of None = []
marks_of (Some mark) = mark_of mark ∷ []

-- a text that begins with an item: its marks, its length in bytes, and whether a line starts after it
abbrev pub IsItem : Bool → List ℕ → List marks.Mark → ℕ → Bool → Type 0
IsItem starts_line text given size starts_line_after =
    (0 < size) × (size ≤ length text) × Yields (record { starts_line = starts_line; text = text }) given (record { starts_line = starts_line_after; text = drop size text })

-- a text that begins with this item, or has no more marks
abbrev pub BeginsWith : Bool → List ℕ → Option Item → Type 0
BeginsWith starts_line text None = Marks starts_line text []
BeginsWith starts_line text (Some item) = IsItem starts_line text (marks_of item.mark) item.size item.starts_line

-- a text that begins with what makes this mark, if there is one: a marker with the name, an inclusion, or a marker with neither a name nor its line's end
abbrev pub IsHere : Bool → List ℕ → Option Mark → Type 0
IsHere starts_line text None = Unit {0}
IsHere starts_line text (Some (mark.Name name is_system_in)) =
    (what starts_line text ≡ marks.Marker) × (marker : Named text) × (marker.name ≡ name.now) × (is_system marker.rest ≡ is_system_in)
IsHere starts_line text (Some mark.Refusal) = what starts_line text ≡ marks.Inclusion
IsHere starts_line text (Some mark.Malformed) = (what starts_line text ≡ marks.Marker) × (Unnamed text → ⊥) × (Named text → ⊥)
