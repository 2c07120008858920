-- The names that lines and arguments include.
use Rattle.std.proofs.Common.{Bor, Contains, map, ◌+◌, ◌≡◌, ◌≢◌, ◌∙◌, ℕ, suc, ◌<◌, ◌⊎◌, inl, inr, Bool, true, false, List, [], ◌∷◌, ◌++◌, Some, None, codes, drop, get_or, length, refl, slice_get, sym, ap, subst, take, arith}
use Rattle.std.specs.BTreeSet.{BTreeSet}
use Rattle.std.specs.Global.{Vec}
use Rattle.std.proofs.Math.Seq.{drop-append_seam, take-append_seam}
use Rattle.std.proofs.lemmas.List.{append_cancel_left, append-nil, get_or_default, get_or-map, length-append, length-map, take-append-drop}
use Rattle.cck_cache_text.specs.Included.{IncludesHeader, Includes, IsAfter, IsClosedBy, IsGiven, IsGivenAt, IsGivenTo, IsHeader, IsIncludeWord, IsIncludedBy, may_include}
use Rattle.cck_cache_text.specs.SearchList.{text_lines}
use Rattle.cck_cache_text.specs.Sets.{Adds, IsSetOf}
use Rattle.cck_cache_text.proofs.LeftLemmas.{no_key}
use Rattle.cck_cache_text.proofs.SetLemmas.{Below, adds_as, adds_both, adds_more, adds_nothing}

-- ---- a line

-- a name ends before this place
abbrev pub ClosedAt : List ℕ → List ℕ → ℕ → List ℕ → Type 0
ClosedAt close text place name = ((rest : List ℕ) × (drop place text ≡ close ++ rest)) × (name ≡ take place text)

pub closed_here : (close text : List ℕ) (place : ℕ) (old new : BTreeSet (Vec ℕ)) (name rest : List ℕ) → drop place text ≡ close ++ rest → name ≡ take place text → Adds (λ q. q ≡ name) old new → Adds (ClosedAt close text place) old new
closed_here close text place old new name rest here is = adds_as (λ q. q ≡ name) (ClosedAt close text place) old new (λ q same. ((rest, here), same ∙ is)) (λ q at. at.1 ∙ sym is)

pub closed_all : (close text : List ℕ) (count : ℕ) (old new : BTreeSet (Vec ℕ)) → count ≡ suc (length text) → Adds (Below (ClosedAt close text) count) old new → Adds (IsClosedBy close text) old new
closed_all close text count old new end = adds_as (Below (ClosedAt close text) count) (IsClosedBy close text) old new to from
  where
    to : (q : List ℕ) → Below (ClosedAt close text) count q → IsClosedBy close text q
    to q (k, lt, ((rest, here), is)) = (rest, sym (take-append-drop k text) ∙ (ap (λ after. take k text ++ after) here ∙ ap (λ name. name ++ (close ++ rest)) (sym is)))

    from : (q : List ℕ) → IsClosedBy close text q → Below (ClosedAt close text) count q
    from q (rest, is) = (
      length q,
      omega (arith, end, ap length is, length-append q (close ++ rest)),
      ((rest, ap (drop (length q)) is ∙ drop-append_seam q (close ++ rest)), sym (ap (take (length q)) is ∙ take-append_seam q (close ++ rest))),
    )

module _ (front close line : List ℕ) (old new : BTreeSet (Vec ℕ)) where
  -- a line that begins so
  pub after_front : (rest : List ℕ) → line ≡ front ++ rest → Adds (IsClosedBy close rest) old new → Adds (IsAfter front close line) old new
  after_front rest is = adds_as (IsClosedBy close rest) (IsAfter front close line) old new (λ q closed. (rest, is, closed))
      (λ q at. subst (λ (r : List ℕ). IsClosedBy close r q) (append_cancel_left front at.0 rest (sym at.1 ∙ is)) at.2)

-- a line that begins otherwise
pub after_none : (front close line : List ℕ) (old : BTreeSet (Vec ℕ)) → ((rest : List ℕ) → line ≢ front ++ rest) → Adds (IsAfter front close line) old old
after_none front close line old none = adds_nothing (IsAfter front close line) old (λ q at. none at.0 at.1)

-- the names after each of the words
pub after_words : (first close : ℕ) (line : List ℕ) (old one two new : BTreeSet (Vec ℕ)) → Adds (IsAfter (codes "#include " ++ first ∷ []) (close ∷ []) line) old one
    → Adds (IsAfter (codes "#include_next " ++ first ∷ []) (close ∷ []) line) one two → Adds (IsAfter (codes "#import " ++ first ∷ []) (close ∷ []) line) two new → Adds (Includes first close line) old new
after_words first close line old one two new a b c =
    adds_as (λ q. (A q ⊎ B q) ⊎ C q) (Includes first close line) old new to from (adds_both (λ q. A q ⊎ B q) C old two new (adds_both A B old one two a b) c)
  where
    A : List ℕ → Type 0
    A q = IsAfter (codes "#include " ++ first ∷ []) (close ∷ []) line q

    B : List ℕ → Type 0
    B q = IsAfter (codes "#include_next " ++ first ∷ []) (close ∷ []) line q

    C : List ℕ → Type 0
    C q = IsAfter (codes "#import " ++ first ∷ []) (close ∷ []) line q

    to : (q : List ℕ) → (A q ⊎ B q) ⊎ C q → Includes first close line q
    to q (inl (inl h)) = (codes "#include ", inl refl, h)
    to q (inl (inr h)) = (codes "#include_next ", inr (inl refl), h)
    to q (inr h) = (codes "#import ", inr (inr refl), h)

    from : (q : List ℕ) → Includes first close line q → (A q ⊎ B q) ⊎ C q
    from q (word, inl is, h) = inl (inl (subst (λ (w : List ℕ). IsAfter (w ++ first ∷ []) (close ∷ []) line q) is h))
    from q (word, inr (inl is), h) = inl (inr (subst (λ (w : List ℕ). IsAfter (w ++ first ∷ []) (close ∷ []) line q) is h))
    from q (word, inr (inr is), h) = inr (subst (λ (w : List ℕ). IsAfter (w ++ first ∷ []) (close ∷ []) line q) is h)

-- a line that begins otherwise
pub no_words : (first close : ℕ) (line : List ℕ) (old : BTreeSet (Vec ℕ)) → may_include line ≡ false → Adds (Includes first close line) old old
no_words first close line old otherwise = adds_nothing (Includes first close line) old none
  where
    begins : (word rest : List ℕ) → line ≡ (word ++ first ∷ []) ++ rest → IsIncludeWord word → may_include line ≡ true
    begins word rest is (inl e) = ap may_include (is ∙ ap (λ w. (w ++ first ∷ []) ++ rest) e)
    begins word rest is (inr (inl e)) = ap may_include (is ∙ ap (λ w. (w ++ first ∷ []) ++ rest) e)
    begins word rest is (inr (inr e)) = ap may_include (is ∙ ap (λ w. (w ++ first ∷ []) ++ rest) e)

    false_true : false ≡ true → ⊥
    false_true e = cc

    none : (q : List ℕ) → Includes first close line q → ⊥
    none q (word, known, after) = false_true (sym otherwise ∙ begins word after.0 after.1 known)

-- ---- lines

-- this holds of the line at this place and a name
abbrev pub LineAt : (List ℕ → List ℕ → Type 0) → List (List ℕ) → ℕ → List ℕ → Type 0
LineAt P lines place name = P (get_or lines place []) name

pub by_lines : (P : List ℕ → List ℕ → Type 0) (lines : List (List ℕ)) (count : ℕ) (old new : BTreeSet (Vec ℕ)) → count ≡ length lines → Adds (Below (LineAt P lines) count) old new
    → Adds (λ name. (line : List ℕ) × Contains lines line × P line name) old new
by_lines P lines count old new end = adds_as (Below (LineAt P lines) count) By old new to from
  where
    By : List ℕ → Type 0
    By name = (line : List ℕ) × Contains lines line × P line name

    to : (q : List ℕ) → Below (LineAt P lines) count q → By q
    to q (k, lt, here) =
        let within : k < length lines = omega (arith, lt, end) in
        (get_or lines k [], (k, within, get_or_default lines k (get_or lines k []) [] within), here)

    from : (q : List ℕ) → By q → Below (LineAt P lines) count q
    from q (line, (k, lt, is), here) =
        (k, omega (arith, lt, end), subst (λ (l : List ℕ). P l q) (sym is ∙ get_or_default lines k line [] lt) here)

-- the lines of a program's list
module _ (P : List ℕ → List ℕ → Type 0) (items : List (Bor (List ℕ))) (old : BTreeSet (Vec ℕ)) where
  abbrev lines : List (List ℕ)
  lines = map (λ line. line.now) items

  -- what one more adds
  pub one_more_line : (i : ℕ) (d : Bor (List ℕ)) (so_far new : BTreeSet (Vec ℕ)) → i < length items → Adds (Below (LineAt P (map (λ line. line.now) items)) i) old so_far → Adds (P (get_or items i d).now) so_far new
      → Adds (Below (LineAt P (map (λ line. line.now) items)) (i + 1)) old new
  one_more_line i d so_far new within done adds =
      adds_more (LineAt P lines) i old so_far new done (subst (λ (l : List ℕ). Adds (P l) so_far new) (sym (get_or-map (λ (line : Bor (List ℕ)). line.now) items i d [] within)) adds)

  -- what all add
  pub by_all_lines : (count : ℕ) (new : BTreeSet (Vec ℕ)) → count ≡ length items → Adds (Below (LineAt P (map (λ line. line.now) items)) count) old new
      → Adds (λ name. (line : List ℕ) × Contains (map (λ line. line.now) items) line × P line name) old new
  by_all_lines count new end = by_lines P lines count old new (omega (arith, end, length-map items (λ (line : Bor (List ℕ)). line.now)))

-- the line at this place includes the header of this name
abbrev pub IncludesAt : List (List ℕ) → Bool → ℕ → List ℕ → Type 0
IncludesAt lines is_quoted = LineAt (λ line name. IncludesHeader line name is_quoted) lines

-- ---- arguments

same_some : (a b : List ℕ) → Some a ≡ Some b → a ≡ b
same_some a b e = cc

some_none : (a : List ℕ) → Some a ≡ None → ⊥
some_none a e = cc

module _ (option : List ℕ) (arguments : List (List ℕ)) (place : ℕ) (argument : List ℕ) (at : slice_get arguments place ≡ Some argument) where
  -- an argument of another option
  pub given_otherwise : (old : BTreeSet (Vec ℕ)) → ((rest : List ℕ) → argument ≢ option ++ rest) → Adds (IsGivenTo option arguments place) old old
  given_otherwise old none = adds_nothing (IsGivenTo option arguments place) old not_given
    where
      not_given : (q : List ℕ) → IsGivenTo option arguments place q → ⊥
      not_given q (inl (some, is)) = none q (same_some argument (option ++ q) (sym at ∙ is))
      not_given q (inr (is, next)) = none [] (same_some argument option (sym at ∙ is) ∙ sym (append-nil option))

  module _ (rest : List ℕ) (begins : argument ≡ option ++ rest) where
    same_rest : (q : List ℕ) → slice_get arguments place ≡ Some (option ++ q) → q ≡ rest
    same_rest q is = append_cancel_left option q rest (same_some (option ++ q) argument (sym is ∙ at) ∙ begins)

    same_option : slice_get arguments place ≡ Some option → length rest ≡ 0
    same_option is =
        let e : option ++ rest ≡ option = sym begins ∙ same_some argument option (sym at ∙ is) in
        omega (arith, ap length e, length-append option rest)

    -- the name is in the argument
    pub given_in_one : (old new : BTreeSet (Vec ℕ)) → 0 < length rest → Adds (λ q. q ≡ rest) old new → Adds (IsGivenTo option arguments place) old new
    given_in_one old new some = adds_as (λ q. q ≡ rest) (IsGivenTo option arguments place) old new to from
      where
        to : (q : List ℕ) → q ≡ rest → IsGivenTo option arguments place q
        to q e = inl (subst (λ (r : List ℕ). 0 < length r) (sym e) some, at ∙ ap Some (begins ∙ ap (λ r. option ++ r) (sym e)))

        from : (q : List ℕ) → IsGivenTo option arguments place q → q ≡ rest
        from q (inl (more, is)) = same_rest q is
        from q (inr (is, next)) = absurd (omega (arith, some, same_option is))

    option_alone : length rest ≡ 0 → slice_get arguments place ≡ Some option
    option_alone none = at ∙ ap Some (begins ∙ (ap (λ r. option ++ r) (no_bytes rest none) ∙ append-nil option))
      where
        no_bytes : (r : List ℕ) → length r ≡ 0 → r ≡ []
        no_bytes [] e = refl
        no_bytes (x ∷ r) e = absurd (omega (arith, e))

    -- the name is the next argument
    pub given_in_next : (old new : BTreeSet (Vec ℕ)) (following : List ℕ) → length rest ≡ 0 → slice_get arguments (place + 1) ≡ Some following → Adds (λ q. q ≡ following) old new → Adds (IsGivenTo option arguments place) old new
    given_in_next old new following none next = adds_as (λ q. q ≡ following) (IsGivenTo option arguments place) old new to from
      where
        to : (q : List ℕ) → q ≡ following → IsGivenTo option arguments place q
        to q e = inr (option_alone none, next ∙ ap Some (sym e))

        from : (q : List ℕ) → IsGivenTo option arguments place q → q ≡ following
        from q (inl (more, is)) = absurd (omega (arith, more, none, ap length (same_rest q is)))
        from q (inr (is, there)) = same_some q following (sym there ∙ next)

    -- no argument comes after the option
    pub given_last : (old : BTreeSet (Vec ℕ)) → length rest ≡ 0 → slice_get arguments (place + 1) ≡ None → Adds (IsGivenTo option arguments place) old old
    given_last old none next = adds_nothing (IsGivenTo option arguments place) old not_given
      where
        not_given : (q : List ℕ) → IsGivenTo option arguments place q → ⊥
        not_given q (inl (more, is)) = omega (arith, more, none, ap length (same_rest q is))
        not_given q (inr (is, there)) = some_none q (sym there ∙ next)

-- the names after each of the options
pub given_at : (arguments : List (List ℕ)) (place : ℕ) (old middle new : BTreeSet (Vec ℕ)) → Adds (IsGivenTo (codes "-include") arguments place) old middle → Adds (IsGivenTo (codes "-imacros") arguments place) middle new → Adds (IsGivenAt arguments place) old new
given_at arguments place old middle new a b =
    adds_as (λ q. A q ⊎ B q) (IsGivenAt arguments place) old new to from (adds_both A B old middle new a b)
  where
    A : List ℕ → Type 0
    A q = IsGivenTo (codes "-include") arguments place q

    B : List ℕ → Type 0
    B q = IsGivenTo (codes "-imacros") arguments place q

    to : (q : List ℕ) → A q ⊎ B q → IsGivenAt arguments place q
    to q (inl h) = (codes "-include", inl refl, h)
    to q (inr h) = (codes "-imacros", inr refl, h)

    from : (q : List ℕ) → IsGivenAt arguments place q → A q ⊎ B q
    from q (option, inl is, h) = inl (subst (λ (o : List ℕ). IsGivenTo o arguments place q) is h)
    from q (option, inr is, h) = inr (subst (λ (o : List ℕ). IsGivenTo o arguments place q) is h)

-- ---- all names

-- a set that began with nothing
pub from_nothing : (P : List ℕ → Type 0) (old new : BTreeSet (Vec ℕ)) → old.keys ≡ [] → Adds P old new → IsSetOf P new
from_nothing P old new none adds q = (
  λ has. elim ((adds q).0 has) [
    | inl a ↦ a
    | inr before ↦ absurd (no_key old q none before)
  ],
  λ p. (adds q).1 (inl p),
)

-- the names of the text, and those of the arguments
pub both_included : (text : List ℕ) (arguments : List (List ℕ)) (old middle new : BTreeSet (Vec ℕ)) → old.keys ≡ [] → Adds (IsIncludedBy (text_lines text) true) old middle → Adds (IsGiven arguments) middle new → IsSetOf (IsHeader text arguments true) new
both_included text arguments old middle new none a b =
    from_nothing (IsHeader text arguments true) old new none (adds_both (IsIncludedBy (text_lines text) true) (IsGiven arguments) old middle new a b)
