-- the marks of a text with their places
use Rattle.std.specs.Prelude.{◌≡◌, ℕ, ◌+◌, ◌==◌, not, List, ◌++◌, All, count_by, map, reverse, Option, Some, None, [], ◌∷◌, Bool, true}
use Rattle.std.specs.List.{prefix_len}
use Rattle.cck_include.specs.Items.{IsHere}
use Rattle.cck_include.specs.Markers.{mark_of}
use Rattle.cck_include.specs.Marks.{Marks}
use Rattle.cck_include.specs.declared.mark.Mark.{Mark}
use Rattle.cck_explain_listing.specs.declared.place.PlacedMark.{PlacedMark}
use Rattle.cck_explain_listing.specs.declared.place.Position.{Position}

-- the line and the column after these bytes: one more than the line feeds, and one more than the bytes after the last of them
unfoldable pub position_after : List ℕ → Position
position_after front = record { line = count_by (λ byte. byte == 10) front + 1; column = prefix_len (λ byte. not (byte == 10)) (reverse front) + 1 }

-- the mark that is made at this place, if there is one
abbrev pub placed_at : Position → Option Mark → List PlacedMark
placed_at position None = []
placed_at position (Some mark) = record { position = position; mark = mark } ∷ []

-- the place is that after some bytes of a text, where what makes the mark begins
pub record IsPlacedIn (text : List ℕ) (placed : PlacedMark) : Type 0 where
  pub front : List ℕ
  pub rest : List ℕ
  pub is : text ≡ front ++ rest
  pub place : placed.position ≡ position_after front
  pub starts_line : Bool
  pub here : IsHere starts_line rest (Some placed.mark)

-- these are the marks of a text, in order, with their places
pub record ArePlacedMarks (text : List ℕ) (placed : List PlacedMark) : Type 0 where
  pub marks : Marks true text (map (λ p. mark_of p.mark) placed)
  pub places : All (IsPlacedIn text) placed
