-- Endings of words: what follows any beginning of a word. The trie is that of the words turned round, so that a node
-- stands for an ending, read from its last byte to its first one.
use Rattle.std.specs.Prelude.{◌≡◌, ℕ, ◌+◌, ◌-◌, ◌<◌, ◌≤◌, List, [], ◌∷◌, ◌++◌, Option, None, Some, true, map, reverse, length, take, drop, unwrap_or, Contains}
use Rattle.std.specs.Option.{option_map}
use Rattle.std.proofs.Common.{get_or}
use Rattle.cck_strip.specs.Text.{is_boundary, longest_prefix}
use Rattle.cck_strip.specs.Trie.{After, At, IsTrie, Leads, Spells}
use Rattle.cck_strip.specs.declared.endings.Link.{Link}
use Rattle.cck_strip.specs.declared.node.NodeId.{NodeId}
use Rattle.cck_strip.specs.declared.node.TrieNode.{TrieNode}

-- these words, each from its last byte to its first one
abbrev pub turned : List (List ℕ) → List (List ℕ)
turned words = map (λ word. reverse word) words

-- the node is one of the first n, if it is one
abbrev pub IsWithin : ℕ → Option NodeId → Type 0
IsWithin n state = (id : NodeId) → state ≡ Some id → id.0 < n

-- this word is spelled from the node on and those beside it
abbrev pub SpelledAt : List TrieNode → Option NodeId → List ℕ → Type 0
SpelledAt nodes from word = (id : NodeId) × (from ≡ Some id) × Spells nodes (id.0) word

-- the node i is the one for this byte among the node `from` and those beside it
pub record IsNodeFor (nodes : List TrieNode) (from : Option NodeId) (byte i : ℕ) : Type 0 where
  pub node : TrieNode
  pub at : At nodes i node
  pub byte_is : node.byte ≡ byte
  pub first : NodeId
  pub from_is : from ≡ Some first
  pub path : (path : ℕ → List ℕ) → Leads nodes path → path i ≡ path (first.0)
  pub spelled : (rest : List ℕ) → SpelledAt nodes from (byte ∷ rest) → After (Spells nodes) node rest

-- no word with this byte is spelled from the node on and those beside it
abbrev pub IsNoNodeFor : List TrieNode → Option NodeId → ℕ → Type 0
IsNoNodeFor nodes from byte = (rest : List ℕ) → SpelledAt nodes from (byte ∷ rest) → ⊥

-- the node i stands for this ending
pub record IsReached (nodes : List TrieNode) (ending : List ℕ) (i : ℕ) : Type 0 where
  pub node : TrieNode
  pub at : At nodes i node
  pub path : (path : ℕ → List ℕ) → Leads nodes path → reverse ending ≡ path i ++ node.byte ∷ []
  pub spelled : (rest : List ℕ) → Spells nodes 0 (reverse ending ++ rest) → After (Spells nodes) node rest

-- the state stands for this ending: a node, or none for the empty one
abbrev pub Reaches : List TrieNode → List ℕ → Option NodeId → Type 0
Reaches nodes ending None = ending ≡ []
Reaches nodes ending (Some id) = IsReached nodes ending (id.0)

-- the node i stands for the ending of the state and this byte before it
abbrev pub IsLonger : List TrieNode → Option NodeId → ℕ → ℕ → Type 0
IsLonger nodes state byte i = (ending : List ℕ) → Reaches nodes ending state → IsReached nodes (byte ∷ ending) i

-- no word ends with the ending of the state and this byte before it
abbrev pub IsNoLonger : List TrieNode → Option NodeId → ℕ → Type 0
IsNoLonger nodes state byte = (ending rest : List ℕ) → Reaches nodes ending state → Spells nodes 0 (reverse ending ++ byte ∷ rest) → ⊥

-- the state stands for the longest ending of these words with which the text begins
pub record IsLongest (nodes : List TrieNode) (words : List (List ℕ)) (state : Option NodeId) (text : List ℕ) : Type 0 where
  pub ending : List ℕ
  pub reached : Reaches nodes ending state
  pub rest : List ℕ
  pub begins : text ≡ ending ++ rest
  pub longest : (before other after : List ℕ) → Contains words (before ++ other) → text ≡ other ++ after → length other ≤ length ending

-- what is known of the node i: the longest ending, but for its own, with which its own begins, and the length of the
-- longest word with which its own begins
pub record IsLink (nodes : List TrieNode) (words : List (List ℕ)) (i : ℕ) (link : Link) : Type 0 where
  pub ending : List ℕ
  pub reached : IsReached nodes ending i
  pub shorter : IsLongest nodes words link.shorter (take (length ending - 1) ending)
  pub length_is : link.length ≡ longest_prefix words ending

-- these links, where they are known, are those of the nodes
pub record HasLinks (nodes : List TrieNode) (links : List (Option Link)) : Type 0 where
  pub size : length links ≡ length nodes
  pub within : (i : ℕ) (link : Link) → get_or links i None ≡ Some link → IsWithin (length nodes) link.shorter
  pub each : (words : List (List ℕ)) → IsTrie nodes (turned words) → (i : ℕ) (link : Link) → get_or links i None ≡ Some link → IsLink nodes words i link

-- the length that is known at the state
abbrev pub known_length : List (Option Link) → Option NodeId → Option ℕ
known_length links None = Some 0
known_length links (Some id) = option_map (λ link. link.length) (get_or links (id.0) None)

-- the state stands for an ending of fewer bytes than `depth` by one
pub record IsRead (nodes : List TrieNode) (state : Option NodeId) (depth : ℕ) : Type 0 where
  pub ending : List ℕ
  pub reached : Reaches nodes ending state
  pub depth_is : depth ≡ length ending + 1
  pub within : IsWithin (length nodes) state

-- at each boundary of the text the length of the longest word there is listed, or none if it is 0
abbrev pub ListsLengths : (ℕ → Option ℕ) → List (List ℕ) → List ℕ → Type 0
ListsLengths lengths words text =
    (k : ℕ) → k ≤ length text → is_boundary text k ≡ true → unwrap_or (lengths k) 0 ≡ longest_prefix words (drop k text)
