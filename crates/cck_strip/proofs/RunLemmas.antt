-- Nodes that a walk passes one after the other.
use Rattle.std.proofs.Common.{◌≡◌, ◌≢◌, inl, inr, ℕ, zero, suc, ◌+◌, ◌-◌, ◌<◌, ◌≤◌, List, [], ◌∷◌, ◌++◌, cond, Bool, true, false, ◌&&◌, Option, Some, None, map, length-take, nat_eq, length, get_or, set, take, drop, take-take, add-one, refl, sym, ap, subst, ◌∙◌, arith}
use Rattle.std.specs.List.{starts_with}
use Rattle.std.proofs.Math.ListN.{get_or-map}
use Rattle.std.proofs.Math.Seq.{drop-cons}
use Rattle.std.proofs.lemmas.Bool.{cases_eq, cases_lt, eq-eqb, false≢true, ne_eqb}
use Rattle.std.proofs.lemmas.List.{drop_all, get_or-take, get_or-set_other, get_or-set_same, get_or_default, length-map, take_all, take_more, take_rest}
use Rattle.cck_strip.specs.Text.{longest_prefix}
use Rattle.cck_strip.specs.declared.node.TrieNode.{TrieNode}
use Rattle.cck_strip.specs.declared.node.NodeId.{NodeId}
use Rattle.cck_strip.specs.Trie.{At, HasRun, HasRuns, IsForward, IsRun, IsStraight, IsTrie, IsWord, leaf_of}
use Rattle.cck_strip.proofs.WalkLemmas.{Pending, Pending-end, Pending-match, Pending-none, Pending-pass, Pending-some, Pending-start, beginning, begins}
use Rattle.cck_strip.proofs.LinkLemmas.{inner}

-- a run lies in the vector
IsRun-within : (n : ℕ) (nodes : List TrieNode) (i : ℕ) → IsRun n nodes i → i ≤ length nodes → i + n ≤ length nodes
IsRun-within zero nodes i run h = omega arith
IsRun-within (suc n) nodes i (node, at, straight, rest) h =
    let within = at.within in
    let others = IsRun-within n nodes (i + 1) rest (omega arith) in
    omega arith

-- the node that is read at a place
pub At-get : (nodes : List TrieNode) (i : ℕ) (default : TrieNode) → i < length nodes → At nodes i (get_or nodes i default)
At-get nodes i default h = record { within = h; is = get_or_default nodes i (get_or nodes i default) default h }

-- and a node follows it
IsRun-below : (n : ℕ) (nodes : List TrieNode) (i : ℕ) → IsForward nodes → IsRun n nodes i → i < length nodes → i + n < length nodes
IsRun-below zero nodes i f run h = omega arith
IsRun-below (suc n) nodes i f (node, at, straight, rest) h =
    let below = (f.below i node straight.id at straight.below).within in
    let next = straight.next_is in
    let others = IsRun-below n nodes (i + 1) f rest (omega arith) in
    omega arith

-- the byte of a node
byte_at : (nodes : List TrieNode) (i : ℕ) (node : TrieNode) → At nodes i node → get_or (map (λ node. node.byte) nodes) i 0 ≡ node.byte
byte_at nodes i node at =
    let within = at.within in
    get_or_default (map byte_of nodes) i 0 node.byte (omega (arith, length-map nodes byte_of))
    ∙ (get_or-map byte_of nodes i node ∙ ap byte_of at.is)
  where
    byte_of : TrieNode → ℕ
    byte_of node = node.byte

same_id : (a b : NodeId) → a.0 ≡ b.0 → a ≡ b
same_id a b e = λ i. record { 0 = e i }

-- what is known of a walk after n nodes of a run, by whether the text goes on with their bytes
abbrev pub Walked : List TrieNode → List ℕ → NodeId → ℕ → ℕ → ℕ → Bool → Type 0
Walked nodes text at n depth best true = (end : NodeId) (later : ℕ) → end.0 ≡ at.0 + n → later ≡ depth + n → Pending nodes text (Some end) later best
Walked nodes text at n depth best false = (words : List (List ℕ)) → IsTrie nodes words → best ≡ longest_prefix words text

-- one node more
Walked-more : (nodes : List TrieNode) (text : List ℕ) (at id : NodeId) (n depth best : ℕ) (b : Bool) → id.0 ≡ at.0 + 1
    → Walked nodes text id n (depth + 1) best b → Walked nodes text at (suc n) depth best b
Walked-more nodes text at id n depth best true next w = λ end later e d. w end later (omega arith) (omega arith)
Walked-more nodes text at id n depth best false next w = w

-- the text does not go on with these bytes
ended : (nodes : List TrieNode) (text : List ℕ) (at : NodeId) (n depth best : ℕ) (b : Bool) → b ≡ false
    → ((words : List (List ℕ)) → IsTrie nodes words → best ≡ longest_prefix words text) → Walked nodes text at n depth best b
ended nodes text at n depth best true e w = absurd cc
ended nodes text at n depth best false e w = w

equal : (a b : ℕ) → a ≡ b → nat_eq a b ≡ true
equal a b e = eq-eqb a b e

unequal : (a b : ℕ) → a ≢ b → nat_eq a b ≡ false
unequal a b e = ne_eqb a b e

-- one straight node more before a run
pub IsRun-longer : (nodes : List TrieNode) (node : TrieNode) (i later n run : ℕ) → At nodes i node → IsStraight node (i + 1) → IsRun n nodes later
    → later ≡ i + 1 → run ≡ n + 1 → IsRun run nodes i
IsRun-longer nodes node i later n run at straight rest next e =
    let longer : suc n ≡ run = omega arith in
    subst (λ m. IsRun m nodes i) longer (node, at, straight, subst (IsRun n nodes) next rest)

-- the run whose length is kept for a node
pub IsRun-kept : (nodes : List TrieNode) (bytes runs : List ℕ) (i n : ℕ) → HasRuns nodes bytes runs → i < length nodes → n ≡ get_or runs i n → IsRun n nodes i
IsRun-kept nodes bytes runs i n h within e =
    subst (λ m. IsRun m nodes i) (sym (e ∙ get_or_default runs i n 0 (omega (arith, h.size)))) (h.each i within)

-- where a run ends
pub run_ends : (nodes : List TrieNode) (bytes runs : List ℕ) (i n : ℕ) → HasRuns nodes bytes runs → i < length nodes → n ≡ get_or runs i n → i + n ≤ length bytes
run_ends nodes bytes runs i n h within e =
    let ends = IsRun-within n nodes i (IsRun-kept nodes bytes runs i n h within e) (omega arith) in
    omega (arith, ap length h.bytes_are, length-map nodes (λ (node : TrieNode). node.byte))

-- the node after a run
pub run_below : (nodes : List TrieNode) (bytes runs : List ℕ) (i n : ℕ) → IsForward nodes → HasRuns nodes bytes runs → i < length nodes → n ≡ get_or runs i n → i + n < length nodes
run_below nodes bytes runs i n f h within e = IsRun-below n nodes i f (IsRun-kept nodes bytes runs i n h within e) within

-- the name of a node that is there
pub named_within : (nodes : List TrieNode) (n : ℕ) → n < length nodes → (id : NodeId) → ◌≡◌ {A = Option NodeId} (Some (record { 0 = n })) (Some id) → id.0 < length nodes
named_within nodes n h id e = let is = ap (λ x. x.0) (inner (record { 0 = n }) id e) in omega arith

-- a walk along a run
Pending-run : (nodes : List TrieNode) (text : List ℕ) (best n : ℕ) (at : NodeId) (depth : ℕ) → IsForward nodes → IsRun n nodes (at.0)
    → Pending nodes text (Some at) depth best
    → (b : Bool) → starts_with nat_eq (drop depth text) (take n (drop (at.0) (map (λ node. node.byte) nodes))) ≡ b
    → Walked nodes text at n depth best b
Pending-run nodes text best zero at depth f run p true e = λ end later is d.
    subst (λ k. Pending nodes text (Some end) k best) (sym d)
    (subst (λ id. Pending nodes text (Some id) (depth + 0) best) (same_id at end (omega arith)) (subst (λ k. Pending nodes text (Some at) k best) (omega arith) p))
Pending-run nodes text best zero at depth f run p false e = absurd cc
Pending-run nodes text best (suc n) at depth f (node, there, straight, rest) p b e = elim (cases_lt depth (length text)) [
  | inl h ↦ elim (cases_eq node.byte (get_or text depth 0)) [
    | inl same ↦
        let match = Pending-match nodes text at node depth best best p f there h same (rw straight.ends refl) in
        Walked-more nodes text at straight.id n depth best b straight.next_is
        (Pending-run nodes text best n straight.id (depth + 1) f (subst (IsRun n nodes) (sym straight.next_is) rest)
        (Pending-some nodes text node.below straight.id (depth + 1) best straight.below match)
        b (sym (opened h same) ∙ e))
    | inr other ↦
        ended nodes text at (suc n) depth best b (sym e ∙ differs h other)
        (λ words t. Pending-none nodes text node.beside depth best (Pending-pass nodes text at node depth best p f there h other) straight.beside words t)
  ]
  | inr past ↦
      ended nodes text at (suc n) depth best b (sym e ∙ short past)
      (λ words t. Pending-end nodes text (Some at) depth best p past words t)
]
  where
    bytes : List ℕ
    bytes = map (λ node. node.byte) nodes

    next : suc (at.0) ≡ straight.id.0
    next = let is = straight.next_is in omega arith

    -- the bytes of the run, the first of which is the node's
    expected : take (suc n) (drop (at.0) bytes) ≡ node.byte ∷ take n (drop (straight.id.0) bytes)
    expected =
        ap (take (suc n)) (drop-cons bytes (at.0) 0 (let within = there.within in omega (arith, length-map nodes (λ (x : TrieNode). x.byte))))
        ∙ (ap (λ x. x ∷ take n (drop (suc (at.0)) bytes)) (byte_at nodes (at.0) node there)
        ∙ ap (λ k. node.byte ∷ take n (drop k bytes)) next)

    first : depth < length text → starts_with nat_eq (drop depth text) (take (suc n) (drop (at.0) bytes))
        ≡ (nat_eq node.byte (get_or text depth 0) && starts_with nat_eq (drop (depth + 1) text) (take n (drop (straight.id.0) bytes)))
    first h =
        ap (starts_with nat_eq (drop depth text)) expected
        ∙ rw add-one (ap (λ x. starts_with nat_eq x (node.byte ∷ take n (drop (straight.id.0) bytes))) (drop-cons text depth 0 h))

    opened : depth < length text → node.byte ≡ get_or text depth 0
        → starts_with nat_eq (drop depth text) (take (suc n) (drop (at.0) bytes)) ≡ starts_with nat_eq (drop (depth + 1) text) (take n (drop (straight.id.0) bytes))
    opened h same = first h ∙ ap (λ x. x && starts_with nat_eq (drop (depth + 1) text) (take n (drop (straight.id.0) bytes))) (equal node.byte (get_or text depth 0) same)

    differs : depth < length text → node.byte ≢ get_or text depth 0 → starts_with nat_eq (drop depth text) (take (suc n) (drop (at.0) bytes)) ≡ false
    differs h other = first h ∙ ap (λ x. x && starts_with nat_eq (drop (depth + 1) text) (take n (drop (straight.id.0) bytes))) (unequal node.byte (get_or text depth 0) other)

    short : length text ≤ depth → starts_with nat_eq (drop depth text) (take (suc n) (drop (at.0) bytes)) ≡ false
    short past = ap (starts_with nat_eq (drop depth text)) expected ∙ ap (λ x. starts_with nat_eq x (node.byte ∷ take n (drop (straight.id.0) bytes))) (drop_all depth text past)

-- the node with which a walk begins
abbrev root : NodeId
root = record { 0 = 0 }

-- a walk that begins after a run with which the text begins
pub Pending-after : (nodes : List TrieNode) (text : List ℕ) (n : ℕ) → IsForward nodes → IsRun n nodes 0 → HasRun n nodes text → Pending nodes text (Some (record { 0 = n })) n 0
Pending-after nodes text n f run h =
    Pending-run nodes text 0 n root 0 f run (Pending-start nodes text root refl f) true h (record { 0 = n }) n (omega arith) (omega arith)

-- and the node after it
pub after_run : (nodes : List TrieNode) (n : ℕ) → IsForward nodes → IsRun n nodes 0 → (id : NodeId) → ◌≡◌ {A = Option NodeId} (Some (record { 0 = n })) (Some id) → id.0 < length nodes
after_run nodes n f run = named_within nodes n (let below = IsRun-below n nodes 0 f run (f.some) in omega arith)

-- no word is found in a text, if none is where it begins with the first run
pub none_after : (nodes : List TrieNode) (text : List ℕ) (n : ℕ) (words : List (List ℕ)) → IsForward nodes → IsRun n nodes 0 → IsTrie nodes words
    → (b : Bool) → starts_with nat_eq text (take n (map (λ node. node.byte) nodes)) ≡ b → (b ≡ true → 0 ≡ longest_prefix words text) → 0 ≡ longest_prefix words text
none_after nodes text n words f run t true e h = h refl
none_after nodes text n words f run t false e h = Pending-run nodes text 0 n root 0 f run (Pending-start nodes text root refl f) false e words t

-- no name at all
no_name : (o : Option NodeId) → ((id : NodeId) → o ≡ Some id → ⊥) → o ≡ None
no_name None h = refl
no_name (Some id) h = absurd (h id refl)

-- the last node names no node below it
last_below : (nodes : List TrieNode) (n : ℕ) (node : TrieNode) → IsForward nodes → length nodes ≡ n + 1 → At nodes n node → node.below ≡ None
last_below nodes n node f size at = no_name node.below (λ id e.
    let named = f.below n node id at e in
    let later = named.later in
    let within = named.within in
    omega arith)

-- and none beside it
last_beside : (nodes : List TrieNode) (n : ℕ) (node : TrieNode) → IsForward nodes → length nodes ≡ n + 1 → At nodes n node → node.beside ≡ None
last_beside nodes n node f size at = no_name node.beside (λ id e.
    let named = f.beside n node id at e in
    let later = named.later in
    let within = named.within in
    omega arith)

-- bytes with which a text begins are in the text
begun : (text bytes : List ℕ) (k : ℕ) → k < length bytes → starts_with nat_eq text bytes ≡ true → (k < length text) × (get_or text k 0 ≡ get_or bytes k 0)
begun text bytes k h e =
    let is = begins text bytes e in
    (omega (arith, ap length is, length-take (length bytes) text), sym (ap (λ x. get_or x k 0) is ∙ get_or-take (length bytes) text k 0 h))

-- a text that ends before the last of some bytes, or has another one there, does not begin with them
pub begins_not : (text bytes : List ℕ) (k : ℕ) → k < length bytes → ((k < length text) × (get_or text k 0 ≡ get_or bytes k 0) → ⊥) → false ≡ starts_with nat_eq text bytes
begins_not text bytes k h other = go (starts_with nat_eq text bytes) refl
  where
    go : (b : Bool) → starts_with nat_eq text bytes ≡ b → false ≡ b
    go true e = absurd (other (begun text bytes k h e))
    go false e = refl

-- what is known of a walk after a run, whose bytes were compared with the text
pub Pending-compared : (nodes : List TrieNode) (bytes own runs text : List ℕ) (next : Option NodeId) (at : NodeId) (depth best n m : ℕ) (b now : Bool)
    → IsForward nodes → HasRuns nodes bytes runs → Pending nodes text next depth best → next ≡ Some at → n ≡ get_or runs (at.0) n → own ≡ bytes → m ≡ n
    → b ≡ starts_with nat_eq (take (length text - depth) (drop depth text)) (take m (drop (at.0) own)) → b ≡ now → Walked nodes text at n depth best now
Pending-compared nodes bytes own runs text next at depth best n m b now f h p is kept e same present claim =
    Pending-run nodes text best n at depth f (IsRun-kept nodes bytes runs (at.0) n h (p.within at is) kept) (Pending-some nodes text next at depth best is p) now
    (sym (sym claim ∙ (present ∙ rw (take_rest text depth, e, h.bytes_are, same) refl)))

-- the runs from a place on, each of the length that is kept for it
abbrev pub RunsFrom : List TrieNode → List ℕ → ℕ → Type 0
RunsFrom nodes runs at = (i : ℕ) → at ≤ i → i < length nodes → IsRun (get_or runs i 0) nodes i

-- one place more
pub RunsFrom-set : (nodes : List TrieNode) (runs : List ℕ) (at run : ℕ) → at < length runs → IsRun run nodes at → RunsFrom nodes runs (at + 1) → RunsFrom nodes (set runs at run) at
RunsFrom-set nodes runs at run h here each i low high = elim (cases_eq i at) [
  | inl e ↦ subst (λ k. IsRun (get_or (set runs at run) k 0) nodes k) (sym e) (subst (λ n. IsRun n nodes at) (sym (get_or-set_same runs at run 0 h)) here)
  | inr ne ↦ subst (λ n. IsRun n nodes i) (sym (get_or-set_other runs at i run 0 ne)) (each i (omega arith) high)
]

-- a text that begins with the first n bytes of n + 1, and has the last one after them, begins with all
begins_all : (text bytes : List ℕ) (n : ℕ) → length bytes ≡ n + 1 → n < length text → starts_with nat_eq text (take n bytes) ≡ true → get_or bytes n 0 ≡ get_or text n 0
    → starts_with nat_eq text bytes ≡ true
begins_all text bytes n size h e last = ap (starts_with nat_eq text) whole ∙ beginning text (n + 1)
  where
    same : take n bytes ≡ take n text
    same = begins text (take n bytes) e ∙ ap (λ k. take k text) (omega (arith, length-take n bytes))

    whole : bytes ≡ take (n + 1) text
    whole =
        sym (take_all (n + 1) bytes (omega arith))
        ∙ (take_more bytes n 0 (omega arith)
        ∙ (ap (λ x. x ++ get_or bytes n 0 ∷ []) same
        ∙ (ap (λ b. take n text ++ b ∷ []) last ∙ sym (take_more text n 0 h))))

-- a text that begins with some bytes begins with the first n of them
begins_part : (text bytes : List ℕ) (n : ℕ) → n ≤ length bytes → starts_with nat_eq text bytes ≡ true → starts_with nat_eq text (take n bytes) ≡ true
begins_part text bytes n h e =
    ap (starts_with nat_eq text) (ap (take n) (begins text bytes e) ∙ take-take n (length bytes) text h) ∙ beginning text n

-- the only word of a trie is found where the text begins with the bytes of all nodes
pub only_word : (nodes : List TrieNode) (bytes runs text : List ℕ) (n : ℕ) (words : List (List ℕ)) → IsForward nodes → HasRuns nodes bytes runs → n ≡ get_or runs 0 0 → IsWord nodes n
    → IsTrie nodes words → (b : Bool) → starts_with nat_eq text bytes ≡ b → cond b (length bytes) 0 ≡ longest_prefix words text
only_word nodes bytes runs text n words f h kept w t b e = rw h.bytes_are (go b (sym (ap (starts_with nat_eq text) h.bytes_are) ∙ e))
  where
    own : List ℕ
    own = map (λ (x : TrieNode). x.byte) nodes

    size : length own ≡ n + 1
    size = length-map nodes (λ (x : TrieNode). x.byte) ∙ w.size

    run : IsRun n nodes 0
    run = IsRun-kept nodes bytes runs 0 n h f.some (kept ∙ get_or_default runs 0 0 n (let some = f.some in omega (arith, h.size)))

    last : TrieNode
    last = get_or nodes n (leaf_of 0)

    there : At nodes n last
    there = At-get nodes n (leaf_of 0) (omega (arith, w.size))

    byte : get_or own n 0 ≡ last.byte
    byte = byte_at nodes n last there

    name : NodeId
    name = record { 0 = n }

    at_last : starts_with nat_eq text (take n own) ≡ true → Pending nodes text (Some name) n 0
    at_last begun = Pending-after nodes text n f run begun

    go : (b : Bool) → starts_with nat_eq text own ≡ b → cond b (length own) 0 ≡ longest_prefix words text
    go true e =
        let (within, same) = begun text own n (omega (arith, size)) e in
        size
        ∙ Pending-none nodes text last.below (n + 1) (n + 1)
        (Pending-match nodes text name last n 0 (n + 1) (at_last (begins_part text own n (omega (arith, size)) e)) f there within (sym byte ∙ sym same) (rw (w.ends last there) refl))
        (last_below nodes n last f w.size there) words t
    go false e = none_after nodes text n words f run t (starts_with nat_eq text (take n own)) refl (λ begun. elim (cases_lt n (length text)) [
      | inl within ↦ elim (cases_eq last.byte (get_or text n 0)) [
        | inl same ↦ absurd (false≢true (sym e ∙ begins_all text own n size within begun (byte ∙ same)))
        | inr other ↦
            Pending-none nodes text last.beside n 0 (Pending-pass nodes text name last n 0 (at_last begun) f there within other)
            (last_beside nodes n last f w.size there) words t
      ]
      | inr past ↦ Pending-end nodes text (Some name) n 0 (at_last begun) past words t
    ])
