-- A search of a text for the places at which base directories may begin.
use Rattle.std.proofs.Common.{◌≡◌, inl, inr, ℕ, ◌<◌, ◌≤◌, List, [], ◌∷◌, ◌++◌, Bool, true, false, cond, nat_eq, length, get_or, drop, max, filter, length-append, length-drop, refl, sym, ap, subst, ◌∙◌, arith, set}
use Rattle.std.specs.Prelude.{Contains}
use Rattle.std.specs.List.{starts_with}
use Rattle.std.proofs.Math.Seq.{take-append_seam}
use Rattle.std.proofs.lemmas.Bool.{cases_eq, false≢true}
use Rattle.std.proofs.lemmas.Bool.Decides.{Decides-eqb}
use Rattle.std.proofs.lemmas.List.{get_or-set_same, get_or-set_other}
use Rattle.std.proofs.lemmas.List.Elements.{Contains-append_right, Contains-push_cases}
use Rattle.std.proofs.lemmas.Slice.Eq.{starts_is}
use Rattle.memchr.specs.Find.{OccursAt}
use Rattle.memchr.proofs.lemmas.MatchLemmas.{OccursAt-from_part}
use Rattle.cck_strip.specs.Basedirs.{longest}
use Rattle.cck_strip.specs.Beginnings.{AllBegin, AllEmpty, FirstsMarked}
use Rattle.cck_strip.specs.SiteLemmas.{text_site-within}
use Rattle.cck_strip.specs.Text.{is_boundary, longest_prefix, text_site}

pub no_word : (word : List ℕ) → Contains [] word → ⊥
no_word word (k, lt, e) = omega arith

-- one of the words is where a site is
longest-some : (words : List (List ℕ)) (text : List ℕ) → 0 < longest (filter (starts_with nat_eq text) words)
    → (word : List ℕ) × Contains words word × (0 < length word) × (starts_with nat_eq text word ≡ true)
longest-some [] text h = absurd (omega arith)
longest-some (first ∷ words) text h = go (starts_with nat_eq text first) refl h (λ k. longest-some words text k)
  where
    others : List (List ℕ)
    others = filter (starts_with nat_eq text) words

    Rest : Type 0
    Rest = 0 < longest others → (word : List ℕ) × Contains words word × (0 < length word) × (starts_with nat_eq text word ≡ true)

    later : Rest → 0 < longest others → (word : List ℕ) × Contains (first ∷ words) word × (0 < length word) × (starts_with nat_eq text word ≡ true)
    later rest k = let (word, c, some, e) = rest k in (word, Contains-append_right (first ∷ []) words word c, some, e)

    none : length first ≡ 0 → 0 < max (length first) (longest others) → 0 < longest others
    none e k = omega arith

    go : (b : Bool) → starts_with nat_eq text first ≡ b → 0 < longest (cond b (first ∷ others) others) → Rest
        → (word : List ℕ) × Contains (first ∷ words) word × (0 < length word) × (starts_with nat_eq text word ≡ true)
    go true e k rest = elim (cases_eq (length first) 0) [
      | inl empty ↦ later rest (none empty k)
      | inr some ↦ (first, (0, omega arith, refl), omega arith, e)
    ]
    go false e k rest = later rest k

present : (text word : List ℕ) (k : ℕ) → 0 < length word → starts_with nat_eq (drop k text) word ≡ true → OccursAt text word k
present text word k some e =
    let rest = drop (length word) (drop k text) in
    let begins : drop k text ≡ word ++ rest = (starts_is Decides-eqb (drop k text) word _ refl).0 e in
    let size = ap length begins in
    OccursAt-from_part text word k (omega (arith, length-append word rest, length-drop k text)) (rw begins (take-append_seam word rest))

-- a site is a boundary, and a base directory is there
pub record Begins (words : List (List ℕ)) (text : List ℕ) (k : ℕ) : Type 0 where
  pub boundary : is_boundary text k ≡ true
  pub word : List ℕ
  pub among : Contains words word
  pub some : 0 < length word
  pub here : OccursAt text word k

pub site-begins : (words : List (List ℕ)) (text : List ℕ) (k : ℕ) → 0 < text_site words text k → Begins words text k
unfolding text_site longest_prefix
site-begins words text k h = go (is_boundary text k) refl h
  where
    go : (b : Bool) → is_boundary text k ≡ b → 0 < cond b (longest (filter (starts_with nat_eq (drop k text)) words)) 0 → Begins words text k
    go true e p =
        let (word, c, some, s) = longest-some words (drop k text) p in record {
          boundary = e;
          word = word;
          among = c;
          some = some;
          here = present text word k some s;
        }
    go false e p = absurd (omega arith)

-- the length of a site
pub site-on : (words : List (List ℕ)) (text : List ℕ) (k n : ℕ) → is_boundary text k ≡ true → n ≡ longest_prefix words (drop k text) → n ≡ text_site words text k
unfolding text_site
site-on words text k n h e = go (is_boundary text k) h
  where
    go : (b : Bool) → b ≡ true → n ≡ cond b (longest_prefix words (drop k text)) 0
    go true d = e
    go false d = cc

pub site-off : (words : List (List ℕ)) (text : List ℕ) (k : ℕ) → is_boundary text k ≡ false → 0 ≡ text_site words text k
unfolding text_site
site-off words text k h = go (is_boundary text k) h
  where
    go : (b : Bool) → b ≡ false → 0 ≡ cond b (longest_prefix words (drop k text)) 0
    go true d = cc
    go false d = refl

pub FirstsMarked-start : (marks : List Bool) → FirstsMarked [] marks
FirstsMarked-start marks word c some = absurd (no_word word c)

-- one more word
pub FirstsMarked-more : (words : List (List ℕ)) (word : List ℕ) (marks : List Bool) → FirstsMarked words marks → get_or word 0 0 < length marks
    → FirstsMarked (words ++ word ∷ []) (set marks (get_or word 0 0) true)
FirstsMarked-more words word marks h fits w c some = elim (Contains-push_cases words word w c) [
  | inl old ↦ elim (cases_eq (get_or w 0 0) (get_or word 0 0)) [
    | inl e ↦ rw e (get_or-set_same marks (get_or word 0 0) true false fits)
    | inr ne ↦ get_or-set_other marks (get_or word 0 0) (get_or w 0 0) true false ne ∙ h w old some
  ]
  | inr e ↦ subst (λ v. get_or (set marks (get_or word 0 0) true) (get_or v 0 0) false ≡ true) e (get_or-set_same marks (get_or word 0 0) true false fits)
]

-- an empty word
pub FirstsMarked-pass : (words : List (List ℕ)) (word : List ℕ) (marks : List Bool) → FirstsMarked words marks → length word ≡ 0 → FirstsMarked (words ++ word ∷ []) marks
FirstsMarked-pass words word marks h empty w c some = elim (Contains-push_cases words word w c) [
  | inl old ↦ h w old some
  | inr e ↦ let same = ap length e in absurd (omega arith)
]

-- where a word occurs, its first byte does
pub OccursAt-first : (text word : List ℕ) (k : ℕ) → 0 < length word → OccursAt text word k → (k < length text) × (get_or text k 0 ≡ get_or word 0 0)
OccursAt-first text word k some o =
    let fits = o.fits in
    (omega arith, ap (λ i. get_or text i 0) (omega arith) ∙ o.reads 0 some)

-- where a word occurs, what it begins with does
pub OccursAt-beginning : (text word bytes : List ℕ) (k : ℕ) → OccursAt text word k → OccursAt word bytes 0 → OccursAt text bytes k
OccursAt-beginning text word bytes k o begin =
    let fits = o.fits in
    let begin_fits = begin.fits in record {
      fits = omega arith;
      reads = λ j lt. o.reads j (omega arith) ∙ (ap (λ i. get_or word i 0) (omega arith) ∙ begin.reads j lt);
    }

-- a length that is none is 0
pub none_is : (n : ℕ) → (0 < n → ⊥) → n ≡ 0
none_is n h = elim (cases_eq n 0) [ inl zero ↦ zero | inr some ↦ absurd (h (omega arith)) ]

-- where all words are empty there is no site
pub text_site-empty : (words : List (List ℕ)) (text : List ℕ) → AllEmpty words → (k : ℕ) → text_site words text k ≡ 0
text_site-empty words text h k = none_is _ (λ p. let b = site-begins words text k p in h (b.word) (b.among) (b.some))

-- after the end of a text there is no site
pub text_site-beyond : (words : List (List ℕ)) (text : List ℕ) (k : ℕ) → length text ≤ k → text_site words text k ≡ 0
text_site-beyond words text k h = none_is _ (λ p. let end = text_site-within words text k p in omega arith)

-- where all words begin with these bytes there is no site but where these bytes are
pub text_site-beginning : (words : List (List ℕ)) (text bytes : List ℕ) (k : ℕ) → AllBegin words bytes → (OccursAt text bytes k → ⊥) → text_site words text k ≡ 0
text_site-beginning words text bytes k h none =
    none_is _ (λ p. let b = site-begins words text k p in none (OccursAt-beginning text (b.word) bytes k (b.here) (h (b.word) (b.among) (b.some))))

-- at a boundary alone there is a site
pub text_site-inside : (words : List (List ℕ)) (text : List ℕ) (k : ℕ) → is_boundary text k ≡ false → text_site words text k ≡ 0
text_site-inside words text k h = sym (site-off words text k h)

-- and only at a byte that is marked
pub text_site-unmarked : (words : List (List ℕ)) (text : List ℕ) (marks : List Bool) (k : ℕ) → FirstsMarked words marks
    → get_or marks (get_or text k 0) false ≡ false → text_site words text k ≡ 0
text_site-unmarked words text marks k h e =
    none_is _ (λ p.
    let b = site-begins words text k p in
    let first = OccursAt-first text (b.word) k (b.some) (b.here) in
    false≢true (sym e ∙ (ap (λ byte. get_or marks byte false) (first.1) ∙ h (b.word) (b.among) (b.some))))
