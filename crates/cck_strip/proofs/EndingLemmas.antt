-- Endings of words, and the longest with which a text begins.
use Rattle.std.proofs.Common.{◌≡◌, ◌≢◌, inl, inr, ℕ, ◌+◌, ◌-◌, ◌<◌, ◌≤◌, ◌++◌, List, [], ◌∷◌, true, false, Option, Some, None, nat_eq, length, get_or, take, drop, set, append_assoc, length-append, length-set, refl, sym, ap, subst, ◌∙◌, arith}
use Rattle.std.specs.Prelude.{Contains, IfSome, reverse, replicate}
use Rattle.std.specs.List.{All, starts_with}
use Rattle.std.specs.Option.{MatchOption, option_map}
use Rattle.std.proofs.lemmas.Bool.{cases_eq, cases_lt}
use Rattle.std.proofs.lemmas.Bool.Decides.{Decides-eqb}
use Rattle.std.proofs.lemmas.List.{append-nil, drop_all, length-map, get_or-map, get_or-set_other, get_or-set_same, get_or_past, get_or-replicate, length-reverse, length-replicate, nil_from_length, reverse-append, reverse-reverse, same_from_push, take-append-drop, take-append-le, take-take, take_all, take_at}
use Rattle.std.proofs.lemmas.List.Elements.{All-push}
use Rattle.std.proofs.lemmas.Slice.Eq.{starts_is}
use Rattle.cck_strip.specs.Endings.{HasLinks, IsLink, IsLonger, IsLongest, IsNoLonger, IsNoNodeFor, IsNodeFor, IsRead, IsReached, IsWithin, ListsLengths, Reaches, SpelledAt, known_length, turned}
use Rattle.cck_strip.specs.SiteLemmas.{longest_prefix-le}
use Rattle.cck_strip.specs.Text.{longest_prefix}
use Rattle.cck_strip.specs.Trie.{After, At, IsLater, IsTrie, Leads, Spells}
use Rattle.cck_strip.specs.declared.endings.Cursor.{Cursor}
use Rattle.cck_strip.specs.declared.endings.Link.{Link}
use Rattle.cck_strip.specs.declared.node.NodeId.{NodeId}
use Rattle.cck_strip.specs.declared.node.TrieNode.{TrieNode}
use Rattle.cck_strip.proofs.LinkLemmas.{inner}
use Rattle.cck_strip.proofs.TrieLemmas.{At-same}
use Rattle.cck_strip.proofs.WalkLemmas.{Spells-beside, Spells-here, longest-least, longest-most, nodes_left}

byte_of : (a b : TrieNode) → a ≡ b → a.byte ≡ b.byte
byte_of a b e = cc

ends_of : (a b : TrieNode) → a ≡ b → a.ends ≡ b.ends
ends_of a b e = cc

-- lists that are turned round
turn_back : (xs ys : List ℕ) → reverse xs ≡ reverse ys → xs ≡ ys
turn_back xs ys e = sym (reverse-reverse xs) ∙ (ap (λ l. reverse l) e ∙ reverse-reverse ys)

turned_more : (b : ℕ) (xs : List ℕ) → reverse (b ∷ xs) ≡ reverse xs ++ b ∷ []
turned_more b xs = reverse-append (b ∷ []) xs

turned_onto : (b : ℕ) (xs rest : List ℕ) → reverse (b ∷ xs) ++ rest ≡ reverse xs ++ b ∷ rest
turned_onto b xs rest = ap (λ l. l ++ rest) (turned_more b xs) ∙ append_assoc (reverse xs) (b ∷ []) rest

Contains-turned : (words : List (List ℕ)) (word : List ℕ) → Contains words word → Contains (turned words) (reverse word)
Contains-turned words word (k, lt, e) =
    (k, omega (arith, length-map words (λ w. reverse w)), get_or-map (λ w. reverse w) words k word (reverse word) lt ∙ ap (λ w. reverse w) e)

Contains-turned_back : (words : List (List ℕ)) (word : List ℕ) → Contains (turned words) (reverse word) → Contains words word
Contains-turned_back words word (k, lt, e) =
    let within : k < length words = omega (arith, length-map words (λ w. reverse w)) in
    let is : get_or words k word ≡ word = turn_back (get_or words k word) word (sym (get_or-map (λ w. reverse w) words k word (reverse word) within) ∙ e) in
    (k, within, is)

-- a state stands for one ending
pub one_ending : (nodes : List TrieNode) (path : ℕ → List ℕ) (state : Option NodeId) (ending other : List ℕ) → Leads nodes path
    → Reaches nodes ending state → Reaches nodes other state → ending ≡ other
one_ending nodes path None ending other l p q = p ∙ sym q
one_ending nodes path (Some id) ending other l p q =
    turn_back ending other (p.path path l ∙ (ap (λ b. path (id.0) ++ b ∷ []) (byte_of p.node q.node (At-same nodes (id.0) p.node q.node p.at q.at)) ∙ sym (q.path path l)))

-- the ending of a node has a byte
pub some_ending : (nodes : List TrieNode) (path : ℕ → List ℕ) (i : ℕ) (ending : List ℕ) → Leads nodes path → IsReached nodes ending i → 0 < length ending
some_ending nodes path i ending l r =
    omega (arith, length-reverse ending, ap length (r.path path l), length-append (path i) (r.node.byte ∷ []))

-- the byte of the node
pub byte_is : (nodes : List TrieNode) (path : ℕ → List ℕ) (i : ℕ) (node : TrieNode) (byte : ℕ) (ending : List ℕ) → Leads nodes path
    → IsReached nodes (byte ∷ ending) i → At nodes i node → node.byte ≡ byte
byte_is nodes path i node byte ending l r at =
    byte_of node r.node (At-same nodes i node r.node at r.at)
    ∙ sym ((same_from_push (reverse ending) (path i) byte r.node.byte (sym (turned_more byte ending) ∙ r.path path l)).1)

-- the first node is for the first byte
pub IsLonger-start : (nodes : List TrieNode) (first : NodeId) (byte i : ℕ) → first.0 ≡ 0 → IsNodeFor nodes (Some first) byte i → IsLonger nodes None byte i
IsLonger-start nodes first byte i zero_is n ending none = record {
  node = n.node;
  at = n.at;
  path = λ path l.
      ap (λ e. reverse (byte ∷ e)) none
      ∙ (ap (λ b. b ∷ []) (sym n.byte_is)
      ∙ ap (λ p. p ++ n.node.byte ∷ []) (sym (n.path path l ∙ (ap path (start n.first n.from_is) ∙ l.start))));
  spelled = λ rest s.
      n.spelled rest (first, refl, subst (λ j. Spells nodes j (byte ∷ rest)) (sym zero_is) (subst (λ e. Spells nodes 0 (reverse (byte ∷ e) ++ rest)) none s));
}
  where
    inner : (id : NodeId) → Some first ≡ Some id → first ≡ id
    inner id e = cc

    start : (id : NodeId) → Some first ≡ Some id → id.0 ≡ 0
    start id e = ap (λ x. x.0) (sym (inner id e)) ∙ zero_is

pub IsNoLonger-start : (nodes : List TrieNode) (first : NodeId) (byte : ℕ) → first.0 ≡ 0 → IsNoNodeFor nodes (Some first) byte → IsNoLonger nodes None byte
IsNoLonger-start nodes first byte zero_is n ending rest none s =
    n rest (first, refl, subst (λ j. Spells nodes j (byte ∷ rest)) (sym zero_is) (subst (λ e. Spells nodes 0 (reverse e ++ byte ∷ rest)) none s))

-- what follows a node is below it
pub IsLonger-below : (nodes : List TrieNode) (id : NodeId) (node : TrieNode) (byte i : ℕ) → At nodes (id.0) node → IsNodeFor nodes (node.below) byte i
    → IsLonger nodes (Some id) byte i
IsLonger-below nodes id node byte i there n ending r = record {
  node = n.node;
  at = n.at;
  path = λ path l.
      turned_more byte ending
      ∙ (ap (λ x. x ++ byte ∷ []) (r.path path l ∙ (ap (λ b. path (id.0) ++ b ∷ []) (byte_of r.node node same) ∙ sym (n.path path l ∙ l.below (id.0) node n.first there n.from_is)))
      ∙ ap (λ b. path i ++ b ∷ []) (sym n.byte_is));
  spelled = λ rest s.
      n.spelled rest (subst (λ x. After (Spells nodes) x (byte ∷ rest)) same (r.spelled (byte ∷ rest) (subst (λ w. Spells nodes 0 w) (turned_onto byte ending rest) s)));
}
  where
    same : r.node ≡ node
    same = At-same nodes (id.0) r.node node r.at there

pub IsNoLonger-below : (nodes : List TrieNode) (id : NodeId) (node : TrieNode) (byte : ℕ) → At nodes (id.0) node → IsNoNodeFor nodes (node.below) byte
    → IsNoLonger nodes (Some id) byte
IsNoLonger-below nodes id node byte there n ending rest r s =
    n rest (subst (λ x. After (Spells nodes) x (byte ∷ rest)) (At-same nodes (id.0) r.node node r.at there) (r.spelled (byte ∷ rest) s))

-- of the endings with this byte, followed by a beginning of the text, none is longer than the state's ending and the byte
pub record IsSought (nodes : List TrieNode) (words : List (List ℕ)) (state : Option NodeId) (byte : ℕ) (text : List ℕ) : Type 0 where
  pub ending : List ℕ
  pub reached : Reaches nodes ending state
  pub rest : List ℕ
  pub begins : text ≡ ending ++ rest
  pub longest : (before other after : List ℕ) → Contains words (before ++ byte ∷ other) → text ≡ other ++ after → length other ≤ length ending

pub IsSought-start : (nodes : List TrieNode) (words : List (List ℕ)) (state : Option NodeId) (byte : ℕ) (text : List ℕ) → IsLongest nodes words state text
    → IsSought nodes words state byte text
IsSought-start nodes words state byte text l = record {
  ending = l.ending;
  reached = l.reached;
  rest = l.rest;
  begins = l.begins;
  longest = λ before other after c e.
      l.longest (before ++ byte ∷ []) other after (subst (λ w. Contains words w) (sym (append_assoc before (byte ∷ []) other)) c) e;
}

-- the rest of two lists that begin alike
cons_same : (a b : ℕ) (xs ys : List ℕ) → ◌≡◌ {A = List ℕ} (a ∷ xs) (b ∷ ys) → (a ≡ b) × (xs ≡ ys)
cons_same a b xs ys e = (cc, cc)

-- a node for the byte is found
pub IsSought-found : (nodes : List TrieNode) (words : List (List ℕ)) (state : Option NodeId) (byte : ℕ) (text : List ℕ) (id : NodeId)
    → IsSought nodes words state byte text → IsLonger nodes state byte (id.0) → IsLongest nodes words (Some id) (byte ∷ text)
IsSought-found nodes words state byte text id s h = record {
  ending = byte ∷ s.ending;
  reached = h s.ending s.reached;
  rest = s.rest;
  begins = ap (λ t. byte ∷ t) s.begins;
  longest = longest;
}
  where
    longest : (before other after : List ℕ) → Contains words (before ++ other) → byte ∷ text ≡ other ++ after → length other ≤ length (byte ∷ s.ending)
    longest before [] after c e = omega arith
    longest before (b ∷ other) after c e =
        let parts = cons_same byte b text (other ++ after) e in
        let le = s.longest before other after (subst (λ x. Contains words (before ++ x ∷ other)) (sym (parts.0)) c) (parts.1) in
        omega arith

-- two beginnings of a text, of which one is no longer
shorter_begins : (text xs ys rest after : List ℕ) → text ≡ xs ++ rest → text ≡ ys ++ after → length ys ≤ length xs → take (length ys) xs ≡ ys
shorter_begins text xs ys rest after e f le =
    sym (take-append-le (length ys) xs rest le) ∙ (ap (take (length ys)) (sym e ∙ f) ∙ take_at ys after (length ys) refl)

parted : (text xs ys rest after : List ℕ) → text ≡ xs ++ rest → text ≡ ys ++ after → length ys ≤ length xs → xs ≡ ys ++ drop (length ys) xs
parted text xs ys rest after e f le =
    sym (take-append-drop (length ys) xs) ∙ ap (λ l. l ++ drop (length ys) xs) (shorter_begins text xs ys rest after e f le)

same_begins : (text xs ys rest after : List ℕ) → text ≡ xs ++ rest → text ≡ ys ++ after → length ys ≡ length xs → ys ≡ xs
same_begins text xs ys rest after e f same =
    sym (shorter_begins text xs ys rest after e f (omega arith)) ∙ take_all (length ys) xs (omega arith)

-- a beginning of a list that is not all of it is one of the list without its last element
begins_before : (xs ys after : List ℕ) → xs ≡ ys ++ after → length ys < length xs
    → take (length xs - 1) xs ≡ ys ++ drop (length ys) (take (length xs - 1) xs)
begins_before xs ys after e lt =
    sym (take-append-drop (length ys) (take (length xs - 1) xs))
    ∙ ap (λ l. l ++ drop (length ys) (take (length xs - 1) xs))
    (take-take (length ys) (length xs - 1) xs (omega arith) ∙ (ap (take (length ys)) e ∙ take_at ys after (length ys) refl))

-- a word that ends so is spelled
spelled_word : (nodes : List TrieNode) (words : List (List ℕ)) (byte : ℕ) (before ending : List ℕ) → IsTrie nodes (turned words)
    → Contains words (before ++ byte ∷ ending) → Spells nodes 0 (reverse ending ++ byte ∷ reverse before)
spelled_word nodes words byte before ending t c =
    subst (λ w. Spells nodes 0 w) (reverse-append before (byte ∷ ending) ∙ turned_onto byte ending (reverse before))
    (t.spells (reverse (before ++ byte ∷ ending)) (Contains-turned words (before ++ byte ∷ ending) c)
    (omega (arith, length-reverse (before ++ byte ∷ ending), length-append before (byte ∷ ending))))

-- no node for the byte is found, and the link is followed
pub IsSought-link : (nodes : List TrieNode) (words : List (List ℕ)) (id : NodeId) (byte : ℕ) (text : List ℕ) (link : Link) → IsTrie nodes (turned words)
    → IsSought nodes words (Some id) byte text → IsNoLonger nodes (Some id) byte → IsLink nodes words (id.0) link → IsSought nodes words (link.shorter) byte text
IsSought-link nodes words id byte text link t s fails k = record {
  ending = g.ending;
  reached = g.reached;
  rest = g.rest ++ (drop (length s.ending - 1) s.ending ++ s.rest);
  begins = begins;
  longest = longest;
}
  where
    g : IsLongest nodes words (link.shorter) (take (length s.ending - 1) s.ending)
    g = subst (λ e. IsLongest nodes words (link.shorter) (take (length e - 1) e)) (one_ending nodes t.path (Some id) k.ending s.ending t.leads k.reached s.reached) k.shorter

    begins : text ≡ g.ending ++ (g.rest ++ (drop (length s.ending - 1) s.ending ++ s.rest))
    begins =
        s.begins
        ∙ (ap (λ e. e ++ s.rest) (sym (take-append-drop (length s.ending - 1) s.ending) ∙ ap (λ e. e ++ drop (length s.ending - 1) s.ending) g.begins)
        ∙ (append_assoc (g.ending ++ g.rest) (drop (length s.ending - 1) s.ending) s.rest
        ∙ append_assoc g.ending g.rest (drop (length s.ending - 1) s.ending ++ s.rest)))

    longest : (before other after : List ℕ) → Contains words (before ++ byte ∷ other) → text ≡ other ++ after → length other ≤ length g.ending
    longest before other after c e =
        let le = s.longest before other after c e in
        elim (cases_eq (length other) (length s.ending)) [
          | inl same ↦
              let is = same_begins text s.ending other s.rest after s.begins e same in
              absurd (fails s.ending (reverse before) s.reached (spelled_word nodes words byte before s.ending t (subst (λ o. Contains words (before ++ byte ∷ o)) is c)))
          | inr ne ↦
              let lt : length other < length s.ending = omega arith in
              g.longest (before ++ byte ∷ []) other (drop (length other) (take (length s.ending - 1) s.ending))
              (subst (λ w. Contains words w) (sym (append_assoc before (byte ∷ []) other)) c)
              (begins_before s.ending other (drop (length other) s.ending) (parted text s.ending other s.rest after s.begins e le) lt)
        ]

-- no node for the byte is found at the start
pub IsSought-none : (nodes : List TrieNode) (words : List (List ℕ)) (byte : ℕ) (text : List ℕ) → IsTrie nodes (turned words)
    → IsSought nodes words None byte text → IsNoLonger nodes None byte → IsLongest nodes words None (byte ∷ text)
IsSought-none nodes words byte text t s fails = record {
  ending = [];
  reached = refl;
  rest = byte ∷ text;
  begins = refl;
  longest = longest;
}
  where
    longest : (before other after : List ℕ) → Contains words (before ++ other) → byte ∷ text ≡ other ++ after → length other ≤ 0
    longest before [] after c e = omega arith
    longest before (b ∷ other) after c e =
        let parts = cons_same byte b text (other ++ after) e in
        let with_byte : Contains words (before ++ byte ∷ other) = subst (λ x. Contains words (before ++ x ∷ other)) (sym (parts.0)) c in
        let le = s.longest before other after with_byte (parts.1) in
        let none : other ≡ [] = nil_from_length other (omega (arith, ap length s.reached)) in
        absurd (fails [] (reverse before) refl (spelled_word nodes words byte before [] t (subst (λ o. Contains words (before ++ byte ∷ o)) none with_byte)))

begins_with : (text word rest : List ℕ) → text ≡ word ++ rest → starts_with nat_eq text word ≡ true
begins_with text word rest e = (starts_is Decides-eqb text word _ refl).1 rest e

-- a beginning of a text with which all words begin that the text begins with has the longest of them
pub longest_of : (words : List (List ℕ)) (text ending rest : List ℕ) → text ≡ ending ++ rest
    → ((word after : List ℕ) → Contains words word → text ≡ word ++ after → length word ≤ length ending)
    → longest_prefix words ending ≡ longest_prefix words text
unfolding longest_prefix
longest_of words text ending rest e h =
    let less = longest-least words ending (longest_prefix words text) (λ word c s.
    let is : ending ≡ word ++ drop (length word) ending = (starts_is Decides-eqb ending word _ refl).0 s in
    longest-most words text word c (begins_with text word (drop (length word) ending ++ rest)
    (e ∙ (ap (λ l. l ++ rest) is ∙ append_assoc word (drop (length word) ending) rest)))) in
    let more = longest-least words text (longest_prefix words ending) (λ word c s.
    let is : text ≡ word ++ drop (length word) text = (starts_is Decides-eqb text word _ refl).0 s in
    longest-most words ending word c (begins_with ending word (drop (length word) ending)
    (parted text ending word rest (drop (length word) text) e is (h word (drop (length word) text) c is)))) in
    omega arith

-- a whole word
pub longest_whole : (words : List (List ℕ)) (word : List ℕ) → Contains words word → length word ≡ longest_prefix words word
unfolding longest_prefix
longest_whole words word c =
    let most = longest-most words word word c (begins_with word word [] (sym (append-nil word))) in
    omega (arith, longest_prefix-le words word)

pub longest_empty : (words : List (List ℕ)) → 0 ≡ longest_prefix words []
longest_empty words = omega (arith, longest_prefix-le words [])

-- the longest of the text is the longest of the state's ending
pub IsLongest-length : (nodes : List TrieNode) (words : List (List ℕ)) (state : Option NodeId) (text : List ℕ) (l : IsLongest nodes words state text)
    → longest_prefix words l.ending ≡ longest_prefix words text
IsLongest-length nodes words state text l = longest_of words text l.ending l.rest l.begins (λ word after c e. l.longest [] word after c e)

-- the empty text
pub IsLongest-empty : (nodes : List TrieNode) (words : List (List ℕ)) → IsLongest nodes words None []
IsLongest-empty nodes words = record {
  ending = [];
  reached = refl;
  rest = [];
  begins = refl;
  longest = λ before other after c e. omega (arith, ap length e, length-append other after);
}

mapped : (o : Option Link) (n : ℕ) → option_map (λ link. link.length) o ≡ Some n → (link : Link) × (o ≡ Some link) × (link.length ≡ n)
mapped None n e = absurd (none n e)
  where
    none : (n : ℕ) → ◌≡◌ {A = Option ℕ} None (Some n) → ⊥
    none n e = cc
mapped (Some link) n e = (link, refl, cc)

-- the length that is known at a state
pub length_known : (nodes : List TrieNode) (links : List (Option Link)) (words : List (List ℕ)) (state : Option NodeId) (ending : List ℕ) (n : ℕ) → IsTrie nodes (turned words)
    → HasLinks nodes links → Reaches nodes ending state → known_length links state ≡ Some n → n ≡ longest_prefix words ending
length_known nodes links words None ending n t h r e = number n e ∙ (longest_empty words ∙ ap (longest_prefix words) (sym r))
  where
    number : (n : ℕ) → ◌≡◌ {A = Option ℕ} (Some 0) (Some n) → n ≡ 0
    number n e = cc
length_known nodes links words (Some id) ending n t h r e =
    let (link, is, length_is) = mapped (get_or links (id.0) None) n e in
    let k = h.each words t (id.0) link is in
    sym length_is ∙ (k.length_is ∙ ap (longest_prefix words) (one_ending nodes t.path (Some id) k.ending ending t.leads k.reached r))

-- the link of a node that ends a word
pub IsLink-ends : (nodes : List TrieNode) (words : List (List ℕ)) (i : ℕ) (node : TrieNode) (ending : List ℕ) (link : Link) → IsTrie nodes (turned words)
    → At nodes i node → IsReached nodes ending i → IsLongest nodes words (link.shorter) (take (length ending - 1) ending)
    → node.ends ≡ true → link.length ≡ length ending → IsLink nodes words i link
IsLink-ends nodes words i node ending link t at r g ends is = record {
  ending = ending;
  reached = r;
  shorter = g;
  length_is =
      is ∙ longest_whole words ending (Contains-turned_back words ending
      (subst (λ w. Contains (turned words) w) (ap (λ b. t.path i ++ b ∷ []) (byte_of node r.node (At-same nodes i node r.node at r.at)) ∙ sym (r.path t.path t.leads)) (t.ends i node at ends)));
}

-- and of one that does not
pub IsLink-inner : (nodes : List TrieNode) (words : List (List ℕ)) (i : ℕ) (node : TrieNode) (ending : List ℕ) (link : Link) → IsTrie nodes (turned words)
    → At nodes i node → IsReached nodes ending i → (g : IsLongest nodes words (link.shorter) (take (length ending - 1) ending))
    → node.ends ≡ false → link.length ≡ longest_prefix words g.ending → IsLink nodes words i link
IsLink-inner nodes words i node ending link t at r g inner is = record {
  ending = ending;
  reached = r;
  shorter = g;
  length_is = is ∙ longest_of words ending g.ending (g.rest ++ drop (length ending - 1) ending) begins longest;
}
  where
    begins : ending ≡ g.ending ++ (g.rest ++ drop (length ending - 1) ending)
    begins =
        sym (take-append-drop (length ending - 1) ending)
        ∙ (ap (λ e. e ++ drop (length ending - 1) ending) g.begins ∙ append_assoc g.ending g.rest (drop (length ending - 1) ending))

    untrue : node.ends ≡ true → ⊥
    untrue e = cc (e, inner)

    longest : (word after : List ℕ) → Contains words word → ending ≡ word ++ after → length word ≤ length g.ending
    longest word after c e = elim (cases_lt (length word) (length ending)) [
      | inl lt ↦ g.longest [] word (drop (length word) (take (length ending - 1) ending)) c (begins_before ending word after e lt)
      | inr ge ↦
          let same : word ≡ ending = same_begins ending ending word [] after (sym (append-nil ending)) e (omega (arith, ap length e, length-append word after)) in
          let spelled : Spells nodes 0 (reverse ending) = t.spells (reverse ending) (Contains-turned words ending (subst (λ w. Contains words w) same c))
          (omega (arith, length-reverse ending, some_ending nodes t.path i ending t.leads r)) in
          absurd (untrue (ends_of node r.node (At-same nodes i node r.node at r.at) ∙ r.spelled [] (subst (λ w. Spells nodes 0 w) (sym (append-nil (reverse ending))) spelled)))
    ]

-- a state that is reached is followed by the byte before it
pub longest_after : (nodes : List TrieNode) (words : List (List ℕ)) (state : Option NodeId) (byte : ℕ) (ending : List ℕ) → 0 < length ending
    → IsLongest nodes words state (byte ∷ take (length ending - 1) ending)
    → IsLongest nodes words state (take (length ending) (byte ∷ ending))
longest_after nodes words state byte [] some l = absurd (omega arith)
longest_after nodes words state byte (b ∷ ending) some l = subst (λ n. IsLongest nodes words state (byte ∷ take n (b ∷ ending))) size l
  where
    size : length (b ∷ ending) - 1 ≡ length ending
    size = omega arith

pub link_shorter : (nodes : List TrieNode) (words : List (List ℕ)) (state : Option NodeId) (byte other : ℕ) (ending : List ℕ) → other ≡ byte
    → IsLongest nodes words state (take (length ending) (other ∷ ending)) → IsLongest nodes words state (take (length (byte ∷ ending) - 1) (byte ∷ ending))
link_shorter nodes words state byte other ending e l =
    subst (λ n. IsLongest nodes words state (take n (byte ∷ ending))) size (subst (λ b. IsLongest nodes words state (take (length ending) (b ∷ ending))) e l)
  where
    size : length ending ≡ length (byte ∷ ending) - 1
    size = omega arith

pub if_some : {X : Type 0} (o : Option X) (x : X) (P : X → Type 0) → o ≡ Some x → IfSome o P → P x
if_some o x P e h = subst (λ p. IfSome p P) e h

-- the empty ending begins with no other one
pub shorter_none : (nodes : List TrieNode) (words : List (List ℕ)) (state : Option NodeId) (byte : ℕ) (ending : List ℕ) → state ≡ None → Reaches nodes ending state
    → IsLongest nodes words None (take (length ending) (byte ∷ ending))
shorter_none nodes words state byte ending e r =
    let none : ending ≡ [] = subst (λ s. Reaches nodes ending s) e r in
    subst (λ x. IsLongest nodes words None (take (length x) (byte ∷ x))) (sym none) (IsLongest-empty nodes words)

-- what follows the state of a link
pub shorter_some : (nodes : List TrieNode) (links : List (Option Link)) (state : Option NodeId) (id : NodeId) (link : Link) (byte : ℕ) (result : Option (Option NodeId))
    → HasLinks nodes links → state ≡ Some id → get_or links (id.0) None ≡ Some link
    → IfSome result (λ next. (words : List (List ℕ)) (text : List ℕ) → IsTrie nodes (turned words)
    → IsLongest nodes words link.shorter text → IsLongest nodes words next (byte ∷ text))
    → IfSome result (λ next. (words : List (List ℕ)) (ending : List ℕ) → IsTrie nodes (turned words) → Reaches nodes ending state
    → IsLongest nodes words next (take (length ending) (byte ∷ ending)))
shorter_some nodes links state id link byte None h e is f = f
shorter_some nodes links state id link byte (Some next) h e is f = λ words ending t r.
    let k = h.each words t (id.0) link is in
    let reached : IsReached nodes ending (id.0) = subst (λ s. Reaches nodes ending s) e r in
    let same = one_ending nodes t.path (Some id) k.ending ending t.leads k.reached reached in
    longest_after nodes words next byte ending (some_ending nodes t.path (id.0) ending t.leads reached)
    (f words (take (length ending - 1) ending) t (subst (λ x. IsLongest nodes words link.shorter (take (length x - 1) x)) same k.shorter))

-- no longer ending, at the start and at a node
pub sought_none : (nodes : List TrieNode) (words : List (List ℕ)) (state : Option NodeId) (byte : ℕ) (text : List ℕ) → state ≡ None → IsTrie nodes (turned words)
    → IsSought nodes words state byte text → IsNoLonger nodes state byte → IsLongest nodes words None (byte ∷ text)
sought_none nodes words state byte text e t s fails =
    IsSought-none nodes words byte text t (subst (λ x. IsSought nodes words x byte text) e s) (subst (λ x. IsNoLonger nodes x byte) e fails)

pub sought_link : (nodes : List TrieNode) (links : List (Option Link)) (words : List (List ℕ)) (state : Option NodeId) (id : NodeId) (byte : ℕ) (text : List ℕ) (link : Link)
    → HasLinks nodes links → state ≡ Some id → get_or links (id.0) None ≡ Some link → IsTrie nodes (turned words)
    → IsSought nodes words state byte text → IsNoLonger nodes state byte → IsSought nodes words (link.shorter) byte text
sought_link nodes links words state id byte text link h e is t s fails =
    IsSought-link nodes words id byte text link t (subst (λ x. IsSought nodes words x byte text) e s) (subst (λ x. IsNoLonger nodes x byte) e fails)
    (h.each words t (id.0) link is)

pub IsRead-start : (nodes : List TrieNode) (state : Option NodeId) → state ≡ None → IsRead nodes state 1
IsRead-start nodes state e = subst (λ s. IsRead nodes s 1) (sym e) (record {
  ending = [];
  reached = refl;
  depth_is = refl;
  within = λ id f. absurd (none id f);
})
  where
    none : (id : NodeId) → ◌≡◌ {A = Option NodeId} None (Some id) → ⊥
    none id f = cc

pub IsRead-more : (nodes : List TrieNode) (state : Option NodeId) (depth byte : ℕ) (id : NodeId) → IsRead nodes state depth → IsLonger nodes state byte (id.0)
    → id.0 < length nodes → IsRead nodes (Some id) (depth + 1)
IsRead-more nodes state depth byte id r longer lt = let depth_is = r.depth_is in record {
  ending = byte ∷ r.ending;
  reached = longer r.ending r.reached;
  depth_is = omega arith;
  within = λ other e. subst (λ j. j.0 < length nodes) (inner id other e) lt;
}

-- no link is known
pub HasLinks-start : (nodes : List TrieNode) (n : ℕ) → n ≡ length nodes → HasLinks nodes (replicate n None)
HasLinks-start nodes n e = record {
  size = length-replicate n None ∙ e;
  within = λ i link is. absurd (none i link is);
  each = λ words t i link is. absurd (none i link is);
}
  where
    apart : (link : Link) → ◌≡◌ {A = Option Link} None (Some link) → ⊥
    apart link e = cc

    none : (i : ℕ) (link : Link) → ◌≡◌ {A = Option Link} (get_or (replicate n None) i None) (Some link) → ⊥
    none i link is = elim (cases_lt i n) [
      | inl lt ↦ apart link (sym (get_or-replicate n i None None lt) ∙ is)
      | inr ge ↦ apart link (sym (get_or_past (replicate n None) i None (omega (arith, length-replicate {A = Option Link} n None))) ∙ is)
    ]

-- one more link is known
pub HasLinks-set : (nodes : List TrieNode) (links : List (Option Link)) (i : ℕ) (known : Option Link) → HasLinks nodes links → i < length nodes
    → ((link : Link) → known ≡ Some link → IsWithin (length nodes) link.shorter)
    → ((link : Link) → known ≡ Some link → (words : List (List ℕ)) → IsTrie nodes (turned words) → IsLink nodes words i link)
    → HasLinks nodes (set links i known)
HasLinks-set nodes links i known h lt within is = record {
  size = length-set links i known ∙ h.size;
  within = λ j link e. elim (cases_eq j i) [
    | inl same ↦ within link (sym (here j same) ∙ e)
    | inr ne ↦ h.within j link (sym (get_or-set_other links i j known None ne) ∙ e)
  ];
  each = λ words t j link e. elim (cases_eq j i) [
    | inl same ↦ subst (λ k. IsLink nodes words k link) (sym same) (is link (sym (here j same) ∙ e) words t)
    | inr ne ↦ h.each words t j link (sym (get_or-set_other links i j known None ne) ∙ e)
  ];
}
  where
    here : (j : ℕ) → j ≡ i → get_or (set links i known) j None ≡ known
    here j same = ap (λ k. get_or (set links i known) k None) same ∙ get_or-set_same links i known None (omega (arith, h.size))

-- no node from the node `from` on before the node `next` is the one for this byte
pub record Passed (nodes : List TrieNode) (from : Option NodeId) (byte : ℕ) (next : Option NodeId) : Type 0 where
  pub path : (id : NodeId) → next ≡ Some id
      → (first : NodeId) × (from ≡ Some first) × ((path : ℕ → List ℕ) → Leads nodes path → path (id.0) ≡ path (first.0))
  pub spelled : (rest : List ℕ) → SpelledAt nodes from (byte ∷ rest) → SpelledAt nodes next (byte ∷ rest)

pub Passed-start : (nodes : List TrieNode) (from : Option NodeId) (byte : ℕ) → Passed nodes from byte from
Passed-start nodes from byte = record {
  path = λ id e. (id, e, (λ path l. refl));
  spelled = λ rest s. s;
}

-- what is spelled from a named node on
spelled_from : (nodes : List TrieNode) (next : Option NodeId) (id : NodeId) (word : List ℕ) → next ≡ Some id → SpelledAt nodes next word → Spells nodes (id.0) word
spelled_from nodes next id word e (other, f, s) = subst (λ j. Spells nodes j word) (ap (λ x. x.0) (inner other id (sym f ∙ e))) s

pub Passed-found : (nodes : List TrieNode) (from : Option NodeId) (byte : ℕ) (next : Option NodeId) (id : NodeId) (node : TrieNode) → Passed nodes from byte next
    → next ≡ Some id → At nodes (id.0) node → node.byte ≡ byte → IsNodeFor nodes from byte (id.0)
Passed-found nodes from byte next id node p e at is = let (first, from_is, path) = p.path id e in record {
  node = node;
  at = at;
  byte_is = is;
  first = first;
  from_is = from_is;
  path = path;
  spelled = λ rest s. Spells-here nodes (id.0) node byte rest at is (spelled_from nodes next id (byte ∷ rest) e (p.spelled rest s));
}

pub Passed-next : (nodes : List TrieNode) (from : Option NodeId) (byte : ℕ) (next : Option NodeId) (id : NodeId) (node : TrieNode) → Passed nodes from byte next
    → next ≡ Some id → At nodes (id.0) node → node.byte ≢ byte → Passed nodes from byte (node.beside)
Passed-next nodes from byte next id node p e at ne = let (first, from_is, path) = p.path id e in record {
  path = λ other f. (first, from_is, (λ paths l. l.beside (id.0) node other at f ∙ path paths l));
  spelled = λ rest s. Spells-beside nodes (id.0) node byte rest at ne (spelled_from nodes next id (byte ∷ rest) e (p.spelled rest s));
}

pub Passed-none : (nodes : List TrieNode) (from : Option NodeId) (byte : ℕ) (next : Option NodeId) → Passed nodes from byte next → next ≡ None
    → IsNoNodeFor nodes from byte
Passed-none nodes from byte next p e rest s = none next e (p.spelled rest s)
  where
    none : (next : Option NodeId) → next ≡ None → {S : NodeId → Type 0} → (id : NodeId) × (next ≡ Some id) × S id → ⊥
    none next e (id, f, s) = cc

pub nodes_left-less : (nodes : List TrieNode) (next beside : Option NodeId) (id : NodeId) → next ≡ Some id → id.0 < length nodes
    → ((other : NodeId) → beside ≡ Some other → IsLater nodes (id.0) other) → nodes_left nodes beside < nodes_left nodes next
nodes_left-less nodes next beside id e lt later = subst (λ o. nodes_left nodes beside < nodes_left nodes o) (sym e) (go beside later)
  where
    go : (o : Option NodeId) → ((other : NodeId) → o ≡ Some other → IsLater nodes (id.0) other) → nodes_left nodes o < length nodes - id.0
    go None h = omega arith
    go (Some other) h = let l = h other refl in let a = l.later in let b = l.within in omega arith

-- a node that is found is one of the nodes
pub found_within : (nodes : List TrieNode) (from : Option NodeId) (byte : ℕ) (result : Option NodeId)
    → MatchOption result (IsNoNodeFor nodes from byte) (λ id. IsNodeFor nodes from byte (id.0)) → IsWithin (length nodes) result
found_within nodes from byte None m id e = absurd (none id e)
  where
    none : (id : NodeId) → ◌≡◌ {A = Option NodeId} None (Some id) → ⊥
    none id e = cc
found_within nodes from byte (Some found) m id e = subst (λ j. j.0 < length nodes) (inner found id e) m.at.within

pub longer_start : (nodes : List TrieNode) (state : Option NodeId) (first : NodeId) (byte : ℕ) (result : Option NodeId) → state ≡ None → first.0 ≡ 0
    → MatchOption result (IsNoNodeFor nodes (Some first) byte) (λ id. IsNodeFor nodes (Some first) byte (id.0))
    → MatchOption result (IsNoLonger nodes state byte) (λ id. IsLonger nodes state byte (id.0))
longer_start nodes state first byte result e zero_is m =
    subst (λ s. MatchOption result (IsNoLonger nodes s byte) (λ id. IsLonger nodes s byte (id.0))) (sym e) (go result m)
  where
    go : (result : Option NodeId) → MatchOption result (IsNoNodeFor nodes (Some first) byte) (λ id. IsNodeFor nodes (Some first) byte (id.0))
        → MatchOption result (IsNoLonger nodes None byte) (λ id. IsLonger nodes None byte (id.0))
    go None m = IsNoLonger-start nodes first byte zero_is m
    go (Some id) m = IsLonger-start nodes first byte (id.0) zero_is m

pub longer_below : (nodes : List TrieNode) (state : Option NodeId) (before : NodeId) (node : TrieNode) (byte : ℕ) (result : Option NodeId) → state ≡ Some before
    → At nodes (before.0) node → MatchOption result (IsNoNodeFor nodes (node.below) byte) (λ id. IsNodeFor nodes (node.below) byte (id.0))
    → MatchOption result (IsNoLonger nodes state byte) (λ id. IsLonger nodes state byte (id.0))
longer_below nodes state before node byte result e at m =
    subst (λ s. MatchOption result (IsNoLonger nodes s byte) (λ id. IsLonger nodes s byte (id.0))) (sym e) (go result m)
  where
    go : (result : Option NodeId) → MatchOption result (IsNoNodeFor nodes (node.below) byte) (λ id. IsNodeFor nodes (node.below) byte (id.0))
        → MatchOption result (IsNoLonger nodes (Some before) byte) (λ id. IsLonger nodes (Some before) byte (id.0))
    go None m = IsNoLonger-below nodes before node byte at m
    go (Some id) m = IsLonger-below nodes before node byte (id.0) at m

pub HasLinks-note : (nodes : List TrieNode) (links : List (Option Link)) (state : Option NodeId) (depth byte i : ℕ) (known : Option Link) → HasLinks nodes links → i < length nodes
    → IsRead nodes state depth → IsLonger nodes state byte i → IfSome known (λ link. IsWithin (length nodes) link.shorter)
    → IfSome known (λ link. (ending : List ℕ) (byte : ℕ) (words : List (List ℕ)) → IsTrie nodes (turned words)
    → Reaches nodes ending state → IsReached nodes (byte ∷ ending) i → depth ≡ length ending + 1 → IsLink nodes words i link)
    → HasLinks nodes (set links i known)
HasLinks-note nodes links state depth byte i known h lt r longer within is =
    HasLinks-set nodes links i known h lt (λ link e. if_some known link (λ l. IsWithin (length nodes) l.shorter) e within)
    (λ link e words t.
    let one : (ending : List ℕ) (byte : ℕ) (words : List (List ℕ)) → IsTrie nodes (turned words)
    → Reaches nodes ending state → IsReached nodes (byte ∷ ending) i → depth ≡ length ending + 1 → IsLink nodes words i link =
    if_some known link (λ l. (ending : List ℕ) (byte : ℕ) (words : List (List ℕ)) → IsTrie nodes (turned words)
    → Reaches nodes ending state → IsReached nodes (byte ∷ ending) i → depth ≡ length ending + 1 → IsLink nodes words i l) e is in
    one r.ending byte words t r.reached (longer r.ending r.reached) r.depth_is)

-- what is written back to a list
pub written_back : {X : Type 0} (n : ℕ) (now old : List X) → length now ≡ length old → n ≡ length old → take n (now ++ drop (length now) old) ≡ now
written_back n now old same e =
    ap (λ l. take n (now ++ l)) (drop_all (length now) old (omega arith)) ∙ (ap (take n) (append-nil now) ∙ take_all n now (omega arith))

-- one more cursor
pub All-noted : (nodes : List TrieNode) (depth : ℕ) (all now : List Cursor) (next : Cursor) → All (λ cursor. IsRead nodes cursor.state depth) all
    → now ≡ all ++ next ∷ [] → IsRead nodes next.state depth → All (λ cursor. IsRead nodes cursor.state depth) now
All-noted nodes depth all now next h e r =
    subst (λ l. All (λ cursor. IsRead nodes cursor.state depth) l) (sym e) (All-push (λ cursor. IsRead nodes cursor.state depth) all next h r)

-- the length that is known at the state of a text
pub length_of_text : (nodes : List TrieNode) (links : List (Option Link)) (words : List (List ℕ)) (state : Option NodeId) (text : List ℕ) (n : ℕ) → IsTrie nodes (turned words)
    → HasLinks nodes links → IsLongest nodes words state text → known_length links state ≡ Some n → n ≡ longest_prefix words text
length_of_text nodes links words state text n t h g e =
    length_known nodes links words state g.ending n t h g.reached e ∙ IsLongest-length nodes words state text g

-- the lengths that are listed for all words
pub listed_of : {M : Type 0} (of : M → ℕ → Option ℕ) (nodes : List TrieNode) (words : List (List ℕ)) (text : List ℕ) (known : Option M) → IsTrie nodes (turned words)
    → IfSome known (λ m. (words : List (List ℕ)) → IsTrie nodes (turned words) → ListsLengths (of m) words text)
    → IfSome known (λ m. ListsLengths (of m) words text)
listed_of of nodes words text None t h = h
listed_of of nodes words text (Some m) t h = h words t
