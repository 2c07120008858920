use Rattle.std.proofs.Common.{◌≡◌, ◌+◌, ◌≤◌, ◌++◌, ℕ, List, take}
use Rattle.cck_explain_listing.specs.Place.{position_after}
use Rattle.cck_explain_listing.proofs.place.Position.after.Given as goal

-- the place after the bytes so far, which is at most that number of lines and columns later
abbrev pub invariant-loop-byte : goal.invariant-loop-byte
invariant-loop-byte l = record {
  line : l.line ≤ l.initial.line + l.byte-index;
  column : l.column ≤ l.initial.column + l.byte-index;
  place : (front : List ℕ) → record { line = l.initial.line; column = l.initial.column } ≡ position_after front
      → record { line = l.line; column = l.column } ≡ position_after (front ++ take l.byte-index l.bytes);
}
