use Rattle.std.proofs.Common.{◌≡◌, ◌<◌, ◌≤◌, ℕ, List, None, drop, length, nat_eq, true, unwrap_or}
use Rattle.std.specs.HashMap.{get}
use Rattle.cck_strip.specs.Endings.{IsLongest, IsWithin, turned}
use Rattle.cck_strip.specs.Text.{is_boundary, longest_prefix}
use Rattle.cck_strip.specs.Trie.{IsTrie}
use Rattle.cck_strip.proofs.endings.lengths_of.Given as goal

abbrev pub invariant-loop-at : goal.invariant-loop-at
invariant-loop-at l = record {
  within : l.at ≤ length l.text;
  state_within : IsWithin (length l.nodes) l.state;
  longest : (words : List (List ℕ)) → IsTrie l.nodes (turned words) → IsLongest l.nodes words l.state (drop l.at l.text);
  fresh : (k : ℕ) → k < l.at → get nat_eq l.lengths k ≡ None;
  listed : (words : List (List ℕ)) → IsTrie l.nodes (turned words) → (k : ℕ) → l.at ≤ k → k ≤ length l.text → is_boundary l.text k ≡ true
      → unwrap_or (get nat_eq l.lengths k) 0 ≡ longest_prefix words (drop k l.text);
}

abbrev pub decreases-loop-at : goal.decreases-loop-at
decreases-loop-at l = l.at
