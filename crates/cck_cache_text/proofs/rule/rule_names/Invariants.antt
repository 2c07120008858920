use Rattle.std.proofs.Common.{◌≡◌, true, List, ◌++◌, Some, length}
use Rattle.std.specs.List.{flat_map, list_all}
use Rattle.cck_cache_rules.specs.Reading.{byte_lists}
use Rattle.cck_cache_text.specs.Rule.{after_target, is_piece, names_after, names_of, piece_text}
use Rattle.cck_cache_text.specs.declared.rule.Piece.{Piece}
use Rattle.cck_cache_text.proofs.rule.rule_names.Given as goal

-- the pieces so far, what is left, and the names so far
abbrev pub invariant-loop-piece : goal.invariant-loop-piece
invariant-loop-piece l =
    (done : List Piece) × (list_all is_piece done ≡ true) × (after_target l.rule ≡ Some (flat_map piece_text done ++ l.rest))
    × ((more : List Piece) → byte_lists l.names.ended ++ names_after l.names.begun.items more ≡ names_of (done ++ more))

abbrev pub decreases-loop-piece : goal.decreases-loop-piece
decreases-loop-piece l = length l.rest
