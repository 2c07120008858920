use Rattle.std.proofs.Common.{ℕ, List, length}
use Rattle.cck_strip.specs.Endings.{IsLongest, IsWithin, turned}
use Rattle.cck_strip.specs.Trie.{IsTrie}
use Rattle.cck_strip.proofs.EndingLemmas.{IsSought}
use Rattle.cck_strip.proofs.endings.next_state.Given as goal

abbrev pub invariant-loop-left : goal.invariant-loop-left
invariant-loop-left l = record {
  within : IsWithin (length l.nodes) l.at;
  sought : (words : List (List ℕ)) (text : List ℕ) → IsTrie l.nodes (turned words) → IsLongest l.nodes words l.fn.state text
      → IsSought l.nodes words l.at l.byte text;
}

abbrev pub decreases-loop-left : goal.decreases-loop-left
decreases-loop-left l = l.left
