-- each text has a list of marks
use Rattle.std.proofs.Common.{◌≡◌, ◌≢◌, ℕ, zero, suc, ◌<◌, ◌≤◌, ◌⊎◌, inl, inr, Bool, true, false, ◌&&◌, ◌||◌, ◌==◌, nat_lt, nat_eq, List, [], ◌∷◌, ◌++◌, length, drop, refl, sym, ap, ◌∙◌, arith, length-append}
use Rattle.std.specs.Prelude.{All, codes, if◌then◌else◌}
use Rattle.std.specs.List.{starts_with}
use Rattle.std.proofs.lemmas.Bool.Decides.{eqb_tells, Decides-eqb}
use Rattle.std.proofs.lemmas.List.{append-nil}
use Rattle.std.proofs.lemmas.List.Elements.{All-nil, All-cons}
use Rattle.std.proofs.lemmas.Slice.Eq.{starts_is}
use Rattle.std.proofs.lemmas.Bool.{and_parts}
use Rattle.cck_include.specs.Marks.{Mark, Name, Refusal, Malformed, What, Short, Marker, Hidden, Inclusion, Plain, what, is_marker, IsFree, is_system, Unnamed, Named, Marks, at_end, unnamed, named, malformed, hidden, hidden_to_end, refused, plain, HasOneList}
use Rattle.cck_include.proofs.OneList.{stop_same, some_nothing, no_stop, not_both, one_list, middle_some}

-- where a text is first cut by a byte, or that it isn't there
data Cut (stop : ℕ) (s : List ℕ) : Type 0 where
  at : (front rest : List ℕ) → s ≡ front ++ stop ∷ rest → All (λ v. v ≢ stop) front → Cut stop s
  never : All (λ v. v ≢ stop) s → Cut stop s

cut_more : (stop x : ℕ) (s : List ℕ) → x ≢ stop → Cut stop s → Cut stop (x ∷ s)
cut_more stop x s apart (at front rest is free) = at (x ∷ front) rest (ap (λ v. x ∷ v) is) (All-cons (λ v. v ≢ stop) x front apart free)
cut_more stop x s apart (never free) = never (All-cons (λ v. v ≢ stop) x s apart free)

cut : (stop : ℕ) (s : List ℕ) → Cut stop s
cut stop [] = never (All-nil (λ v. v ≢ stop))
cut stop (x ∷ s) =
    elim (eqb_tells x stop) [
      | inl same ↦ at [] s (ap (λ v. v ∷ s) same.1) (All-nil (λ v. v ≢ stop))
      | inr apart ↦ cut_more stop x s apart.1 (cut stop s)
    ]

-- the first of a quote and a line's end
data First (s : List ℕ) : Type 0 where
  quote : (front rest : List ℕ) → s ≡ front ++ 34 ∷ rest → IsFree front → First s
  line : (front rest : List ℕ) → s ≡ front ++ 10 ∷ rest → IsFree front → First s
  neither : IsFree s → First s

first_more : (x : ℕ) (s : List ℕ) → x ≢ 34 → x ≢ 10 → First s → First (x ∷ s)
first_more x s a b (quote front rest is free) = quote (x ∷ front) rest (ap (λ v. x ∷ v) is) (All-cons (λ v. (v ≢ 34) × (v ≢ 10)) x front (a, b) free)
first_more x s a b (line front rest is free) = line (x ∷ front) rest (ap (λ v. x ∷ v) is) (All-cons (λ v. (v ≢ 34) × (v ≢ 10)) x front (a, b) free)
first_more x s a b (neither free) = neither (All-cons (λ v. (v ≢ 34) × (v ≢ 10)) x s (a, b) free)

first : (s : List ℕ) → First s
first [] = neither (All-nil (λ v. (v ≢ 34) × (v ≢ 10)))
first (x ∷ s) =
    elim (eqb_tells x 34) [
      | inl same ↦ quote [] s (ap (λ v. v ∷ s) same.1) (All-nil (λ v. (v ≢ 34) × (v ≢ 10)))
      | inr apart ↦ (elim (eqb_tells x 10) [
        | inl same ↦ line [] s (ap (λ v. v ∷ s) same.1) (All-nil (λ v. (v ≢ 34) × (v ≢ 10)))
        | inr apart' ↦ first_more x s apart.1 apart'.1 (first s)
      ])
    ]

-- a marker names a file, names none, or errs
Case : List ℕ → Type 0
Case s = Unnamed s ⊎ (Named s ⊎ ((Unnamed s → ⊥) × (Named s → ⊥)))

quote_case : (s front rest : List ℕ) → s ≡ front ++ 34 ∷ rest → IsFree front → Cut 34 rest → Case s
unfolding Case
quote_case s front rest is free (at name more is' free') =
    inr (inl (record {
      front = front;
      name = name;
      rest = 34 ∷ more;
      is = is ∙ ap (λ v. front ++ 34 ∷ v) is';
      free = free;
      unquoted = free';
      closed = refl;
      some = middle_some name 34 more;
    }))
quote_case s front [] is free (never free') =
    inr (inr (
      λ u. not_both u.front front u.rest [] u.free free (sym u.is ∙ is),
      λ n. n.some (stop_same 34 n.front front (n.name ++ n.rest) [] (λ k d l. (n.free k d l).0) (λ k d l. (free k d l).0) (sym n.is ∙ is)).1,
    ))
quote_case s front (x ∷ rest) is free (never free') =
    inr (inl (record {
      front = front;
      name = x ∷ rest;
      rest = [];
      is = is ∙ ap (λ v. front ++ 34 ∷ v) (sym (append-nil (x ∷ rest)));
      free = free;
      unquoted = free';
      closed = tt;
      some = λ e. some_nothing e;
    }))

case_of : (s : List ℕ) → First s → Case s
unfolding Case
case_of s (quote front rest is free) = quote_case s front rest is free (cut 34 rest)
case_of s (line front rest is free) = inl (record { front = front; rest = rest; is = is; free = free })
case_of s (neither free) =
    inr (inr (λ u. no_stop 10 s u.front u.rest (λ k d l. (free k d l).1) u.is, λ n. no_stop 34 s n.front (n.name ++ n.rest) (λ k d l. (free k d l).0) n.is))

chosen_marker : (a b c d : Bool) → (if a then Short else if b then Marker else if c then Hidden else if d then Inclusion else Plain) ≡ Marker → b ≡ true
chosen_marker true b c d e = cc
chosen_marker false true c d e = refl
chosen_marker false false true d e = cc
chosen_marker false false false true e = cc
chosen_marker false false false false e = cc

pub any_true : (a b c : Bool) (P : Type 0) → (a || b || c) ≡ true → (a ≡ true → P) → (b ≡ true → P) → (c ≡ true → P) → P
any_true true b c P h f g k = f refl
any_true false true c P h f g k = g refl
any_true false false c P h f g k = k h

-- what a text that starts with a word is
pub after_word : (s word : List ℕ) → starts_with nat_eq s word ≡ true → s ≡ word ++ drop (length word) s
after_word s word h = (starts_is Decides-eqb s word (starts_with nat_eq s word) refl).0 h

-- a marker starts with `#`
pub marker_starts : (s : List ℕ) → is_marker s ≡ true → (t : List ℕ) × (s ≡ 35 ∷ t)
unfolding is_marker
marker_starts s h =
    any_true (starts_with nat_eq s (codes "# ") && _) (starts_with nat_eq s (codes "#pragma GCC pch_preprocess")) (starts_with nat_eq s (codes "#line ")) ((t : List ℕ) × (s ≡ 35 ∷ t)) h
    (λ e. (_, after_word s (codes "# ") (and_parts _ _ e).0))
    (λ e. (_, after_word s (codes "#pragma GCC pch_preprocess") e))
    (λ e. (_, after_word s (codes "#line ") e))

pub what_marker : (start : Bool) (s : List ℕ) → what start s ≡ Marker → (t : List ℕ) × (s ≡ 35 ∷ t)
unfolding what
what_marker start s e = marker_starts s (and_parts start (is_marker s) (chosen_marker (nat_lt (length s) 7) _ _ _ e)).1

plain_some : (start : Bool) (s : List ℕ) → what start s ≡ Plain → (x : ℕ) × (t : List ℕ) × (s ≡ x ∷ t)
unfolding what
plain_some start [] e = absurd (short_plain e)
  where
    short_plain : Short ≡ Plain → ⊥
    short_plain e = cc
plain_some start (x ∷ s) e = (x, s, refl)

first_same : (a b : ℕ) (xs ys : List ℕ) → a ∷ xs ≡ b ∷ ys → a ≡ b
first_same a b xs ys e = cc

pub unnamed_shorter : (t : List ℕ) (s : List ℕ) → s ≡ 35 ∷ t → (u : Unnamed s) → length (10 ∷ u.rest) < length s
unnamed_shorter t s hash u = go u.front u.is
  where
    go : (front : List ℕ) → s ≡ front ++ 10 ∷ u.rest → length (10 ∷ u.rest) < length s
    go [] is = absurd (omega (arith, first_same 35 10 t u.rest (sym hash ∙ is)))
    go (x ∷ front) is = omega (arith, ap length is, length-append front (10 ∷ u.rest))

HasList : Bool → List ℕ → Type 0
HasList start s = (marks : List Mark) × Marks start s marks

pub no_bytes : (start : Bool) (s : List ℕ) → length s ≤ 0 → what start s ≡ Short
unfolding what
no_bytes start [] l = refl
no_bytes start (x ∷ s) l = absurd (omega arith)

pub named_shorter : (s : List ℕ) (n : Named s) → length n.rest < length s
named_shorter s n = omega (arith, ap length n.is, length-append n.front (34 ∷ (n.name ++ n.rest)), length-append n.name n.rest)

pub cut_shorter : (s front rest : List ℕ) → s ≡ front ++ 10 ∷ rest → length rest < length s
cut_shorter s front rest is = omega (arith, ap length is, length-append front (10 ∷ rest))

module _ (start : Bool) (s : List ℕ) (n : ℕ) (l : length s ≤ suc n) (more : (start : Bool) (t : List ℕ) → length t ≤ n → HasList start t) where
  marker_list : what start s ≡ Marker → Case s → HasList start s
  unfolding Case HasList
  marker_list is (inl u) =
      let hash = what_marker start s is in
      let shorter = unnamed_shorter hash.0 s hash.1 u in
      let rest = more false (10 ∷ u.rest) (omega (arith, shorter, l)) in
      (rest.0, unnamed is u rest.1)
  marker_list is (inr (inl name)) =
      let shorter = named_shorter s name in
      let rest = more false name.rest (omega (arith, shorter, l)) in
      (Name name.name (is_system name.rest) ∷ rest.0, named is name rest.0 rest.1 refl)
  marker_list is (inr (inr nothing)) = (Malformed ∷ [], malformed is nothing.0 nothing.1 refl)

  hidden_list : what start s ≡ Hidden → Cut 10 s → HasList start s
  unfolding HasList
  hidden_list is (at front rest where_cut free) =
      let shorter = cut_shorter s front rest where_cut in
      let after = more true rest (omega (arith, shorter, l)) in
      (after.0, hidden is front rest where_cut free after.1)
  hidden_list is (never free) = ([], hidden_to_end is free refl)

  plain_list : what start s ≡ Plain → HasList start s
  unfolding HasList
  plain_list is =
      let (x, t, same) = plain_some start s is in
      let after = more (x == 10) t (omega (arith, ap length same, l)) in
      (after.0, plain is x t same after.1)

  list_for : (w : What) → what start s ≡ w → HasList start s
  unfolding HasList
  list_for Short is = ([], at_end is refl)
  list_for Marker is = marker_list is (case_of s (first s))
  list_for Hidden is = hidden_list is (cut 10 s)
  list_for Inclusion is = (Refusal ∷ [], refused is refl)
  list_for Plain is = plain_list is

all_by : (n : ℕ) (start : Bool) (s : List ℕ) → length s ≤ n → HasList start s
unfolding HasList
all_by zero start s l = ([], at_end (no_bytes start s l) refl)
all_by (suc n) start s l = list_for start s n l (λ start t m. all_by n start t m) (what start s) refl

pub each_text : (start : Bool) (s : List ℕ) → (marks : List Mark) × Marks start s marks
unfolding HasList
each_text start s = all_by (length s) start s (omega arith)

pub has_one_list : HasOneList
has_one_list start s =
    let list = each_text start s in
    (list.0, list.1, λ others other. one_list start s others list.0 other list.1)
