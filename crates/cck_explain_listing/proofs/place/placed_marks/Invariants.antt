use Rattle.std.proofs.Common.{◌≡◌, ◌++◌, ℕ, List, All, length, map}
use Rattle.cck_include.specs.Markers.{Yields, mark_of, unread_text}
use Rattle.cck_explain_listing.specs.Place.{IsPlacedIn, position_after}
use Rattle.cck_explain_listing.proofs.place.placed_marks.Given as goal

-- with the marks of the rest the marks so far are those of the text, and the rest is at the place
abbrev pub invariant-loop-item : goal.invariant-loop-item
invariant-loop-item l = record {
  marks : Yields (unread_text l.text) (map (λ p. mark_of p.mark) l.placed.items) (record { starts_line = l.starts_line; text = l.rest });
  places : All (IsPlacedIn l.text) l.placed.items;
  place : (front : List ℕ) × (l.text ≡ front ++ l.rest) × (l.position ≡ position_after front);
}

abbrev pub decreases-loop-item : goal.decreases-loop-item
decreases-loop-item l = length l.rest
