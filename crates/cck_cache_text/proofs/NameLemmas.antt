-- The names of a text, one mark after the other.
use Rattle.std.proofs.Common.{◌≡◌, ℕ, zero, suc, ◌<◌, ◌⊎◌, inl, inr, Bool, true, false, not, cond, ◌&&◌, ◌||◌, ◌==◌, List, [], ◌∷◌, ◌++◌, Bor, IsTrue, length, take, get_or, Option, Some, None, refl, sym, ap, ◌∙◌, arith}
use Rattle.std.specs.List.{list_any}
use Rattle.std.specs.Option.{is_some}
use Rattle.std.specs.Str.{bytes_eq}
use Rattle.std.proofs.lemmas.Bool.{or_left, or_right}
use Rattle.std.proofs.lemmas.Slice.Eq.{bytes_eq-Decides}
use Rattle.cck_include.specs.Marks.{Mark, Name, Refusal, Malformed}
use Rattle.cck_include.specs.Markers.{mark_of}
use Rattle.cck_include.specs.declared.mark.Mark as declared
use Rattle.cck_include.specs.declared.mark.Mark.TheVariants as variant
use Rattle.cck_cache_text.specs.Names.{AreNames, directory_of, first_of_name, is_named, is_no_file, is_place, is_some_true, is_system_name}
use Rattle.cck_cache_text.specs.Sets.{has_key}
use Rattle.cck_cache_text.specs.declared.names.Named.{Named}

abbrev first_or : Option Bool → Option Bool → Option Bool
first_or None o = o
first_or (Some b) o = Some b

named_later : (b : Bool) (s : Bool) (o p : Option Bool) → cond b (Some s) (first_or o p) ≡ first_or (cond b (Some s) o) p
named_later true s o p = refl
named_later false s o p = refl

first_more : (q n : List ℕ) (s : Bool) (marks : List Mark) → first_of_name q (marks ++ Name n s ∷ []) ≡ first_or (first_of_name q marks) (cond (bytes_eq q n) (Some s) None)
first_more q n s [] = refl
first_more q n s (Name m t ∷ marks) =
    ap (λ o. cond (bytes_eq q m) (Some t) o) (first_more q n s marks) ∙ named_later (bytes_eq q m) t (first_of_name q marks) (cond (bytes_eq q n) (Some s) None)
first_more q n s (Refusal ∷ marks) = first_more q n s marks
first_more q n s (Malformed ∷ marks) = first_more q n s marks

or_swap : (a b : Bool) → (a || b) ≡ (b || a)
or_swap true true = refl
or_swap true false = refl
or_swap false true = refl
or_swap false false = refl

or_move : (a b c : Bool) → (a || (b || c)) ≡ ((a || b) || c)
or_move true b c = refl
or_move false b c = refl

place_more : (d n : List ℕ) (s : Bool) (marks : List Mark) → is_place (marks ++ Name n s ∷ []) d ≡ (is_place marks d || (not (is_no_file n) && bytes_eq d (directory_of n)))
place_more d n s [] = or_swap (not (is_no_file n) && bytes_eq d (directory_of n)) (length d == 0)
place_more d n s (Name m t ∷ marks) =
    ap (λ r. (not (is_no_file m) && bytes_eq d (directory_of m)) || r) (place_more d n s marks) ∙ or_move (not (is_no_file m) && bytes_eq d (directory_of m)) (is_place marks d) (not (is_no_file n) && bytes_eq d (directory_of n))
place_more d n s (Refusal ∷ marks) = place_more d n s marks
place_more d n s (Malformed ∷ marks) = place_more d n s marks

-- a file that is named has its directory among the places
named_place : (n : List ℕ) (marks : List Mark) → is_no_file n ≡ false → IsTrue (is_some (first_of_name n marks)) → IsTrue (is_place marks (directory_of n))
named_place n [] file some = cc
named_place n (Name m t ∷ marks) file some = go (bytes_eq n m) refl some (named_place n marks file)
  where
    go : (b : Bool) → bytes_eq n m ≡ b → IsTrue (is_some (cond b (Some t) (first_of_name n marks))) → (IsTrue (is_some (first_of_name n marks)) → IsTrue (is_place marks (directory_of n)))
        → IsTrue ((not (is_no_file m) && bytes_eq (directory_of n) (directory_of m)) || is_place marks (directory_of n))
    go true same some more =
        let is = (bytes_eq-Decides n m).0 same in
        rw (← is, file, (bytes_eq-Decides (directory_of n) (directory_of n)).1 refl) refl
    go false same some more = or_right _ _ (more some)
named_place n (Refusal ∷ marks) file some = named_place n marks file some
named_place n (Malformed ∷ marks) file some = named_place n marks file some

-- ---- a mark that adds no name

-- the first mark of no name changes
record Unchanged (marks : List Mark) (n : List ℕ) (s : Bool) : Type 0 where
  named : (q : List ℕ) → is_named (marks ++ Name n s ∷ []) q ≡ is_named marks q
  system : (q : List ℕ) → is_system_name (marks ++ Name n s ∷ []) q ≡ is_system_name marks q
  place : (d : List ℕ) → is_place (marks ++ Name n s ∷ []) d ≡ is_place marks d

as_before : (marks : List Mark) (n : List ℕ) (s : Bool) (named : Named) → Unchanged marks n s → AreNames marks named → AreNames (marks ++ Name n s ∷ []) named
as_before marks n s named same are = record {
  names = λ q. are.names q ∙ sym (same.named q);
  systems = λ q. are.systems q ∙ sym (same.system q);
  directories = λ d. are.directories d ∙ sym (same.place d);
}

first_or_none : (o : Option Bool) → first_or o None ≡ o
first_or_none None = refl
first_or_none (Some b) = refl

first_or_some : (o p : Option Bool) → IsTrue (is_some o) → first_or o p ≡ o
first_or_some None p some = cc
first_or_some (Some b) p some = refl

or_false : (a : Bool) → (a || false) ≡ a
or_false true = refl
or_false false = refl

or_known : (a b : Bool) → (IsTrue b → IsTrue a) → (a || b) ≡ a
or_known true b h = refl
or_known false true h = sym (h refl)
or_known false false h = refl

no_file_unchanged : (marks : List Mark) (n : List ℕ) (s : Bool) → is_no_file n ≡ true → Unchanged marks n s
no_file_unchanged marks n s none = record {
  named = λ q. on_first (λ o. is_some o) q;
  system = λ q. on_first is_some_true q;
  place = λ d. place_more d n s marks ∙ (rw none (or_false (is_place marks d)));
}
  where
    go : (f : Option Bool → Bool) (q : List ℕ) (b : Bool) → bytes_eq q n ≡ b → (not (is_no_file q) && f (first_or (first_of_name q marks) (cond b (Some s) None))) ≡ (not (is_no_file q) && f (first_of_name q marks))
    go f q true same = let is = (bytes_eq-Decides q n).0 same in rw (is, none) refl
    go f q false same = ap (λ o. not (is_no_file q) && f o) (first_or_none (first_of_name q marks))

    on_first : (f : Option Bool → Bool) (q : List ℕ) → (not (is_no_file q) && f (first_of_name q (marks ++ Name n s ∷ []))) ≡ (not (is_no_file q) && f (first_of_name q marks))
    on_first f q = ap (λ o. not (is_no_file q) && f o) (first_more q n s marks) ∙ go f q (bytes_eq q n) refl

first_unchanged : (marks : List Mark) (n : List ℕ) (s : Bool) → IsTrue (is_some (first_of_name n marks)) → (q : List ℕ) → first_of_name q (marks ++ Name n s ∷ []) ≡ first_of_name q marks
first_unchanged marks n s some q = first_more q n s marks ∙ go (bytes_eq q n) refl
  where
    go : (b : Bool) → bytes_eq q n ≡ b → first_or (first_of_name q marks) (cond b (Some s) None) ≡ first_of_name q marks
    go true same = let is = (bytes_eq-Decides q n).0 same in first_or_some (first_of_name q marks) (Some s) (rw is some)
    go false same = first_or_none (first_of_name q marks)

seen_unchanged : (marks : List Mark) (n : List ℕ) (s : Bool) → is_no_file n ≡ false → IsTrue (is_some (first_of_name n marks)) → Unchanged marks n s
seen_unchanged marks n s file some = record {
  named = λ q. ap (λ o. not (is_no_file q) && is_some o) (first_unchanged marks n s some q);
  system = λ q. ap (λ o. not (is_no_file q) && is_some_true o) (first_unchanged marks n s some q);
  place = λ d. place_more d n s marks ∙ (rw file (or_known (is_place marks d) (bytes_eq d (directory_of n)) (λ same. let is = (bytes_eq-Decides d (directory_of n)).0 same in rw is (named_place n marks file some))));
}

pub no_file_added : (marks : List Mark) (n : List ℕ) (s : Bool) (named : Named) → is_no_file n ≡ true → AreNames marks named → AreNames (marks ++ Name n s ∷ []) named
no_file_added marks n s named none are = as_before marks n s named (no_file_unchanged marks n s none) are

named_first : (marks : List Mark) (n : List ℕ) → IsTrue (is_named marks n) → (is_no_file n ≡ false) × IsTrue (is_some (first_of_name n marks))
named_first marks n named = go (is_no_file n) named
  where
    go : (b : Bool) → IsTrue (not b && is_some (first_of_name n marks)) → (b ≡ false) × IsTrue (is_some (first_of_name n marks))
    go true h = cc
    go false h = (refl, h)

pub seen_added : (marks : List Mark) (n : List ℕ) (s : Bool) (named : Named) → IsTrue (has_key named.names n) → AreNames marks named → AreNames (marks ++ Name n s ∷ []) named
seen_added marks n s named known are =
    let first = named_first marks n (sym (are.names n) ∙ known) in
    as_before marks n s named (seen_unchanged marks n s first.0 first.1) are

-- a name that a mark had
pub first_added : (marks : List Mark) (n : List ℕ) (s : Bool) (named : Named) → IsTrue (is_some (first_of_name n marks)) → AreNames marks named → AreNames (marks ++ Name n s ∷ []) named
first_added marks n s named some are = go (is_no_file n) refl
  where
    go : (b : Bool) → is_no_file n ≡ b → AreNames (marks ++ Name n s ∷ []) named
    go true none = no_file_added marks n s named none are
    go false file = as_before marks n s named (seen_unchanged marks n s file some) are

-- ---- a new name

none_first : (o : Option Bool) → is_some o ≡ false → o ≡ None
none_first None e = refl
none_first (Some b) e = cc

module _ (marks : List Mark) (n : List ℕ) (s : Bool) (old new : Named) (file : is_no_file n ≡ false) (unknown : has_key old.names n ≡ false) (are : AreNames marks old)
    (names : (q : List ℕ) → has_key new.names q ≡ (bytes_eq q n || has_key old.names q))
    (directories : (d : List ℕ) → has_key new.directories d ≡ (bytes_eq d (directory_of n) || has_key old.directories d))
    (systems : (q : List ℕ) → has_key new.systems q ≡ ((s && bytes_eq q n) || has_key old.systems q)) where
  first_none : first_of_name n marks ≡ None
  first_none = none_first (first_of_name n marks) (rw file at (sym (are.names n) ∙ unknown))

  names_more : (q : List ℕ) (b : Bool) → bytes_eq q n ≡ b → (b || is_named marks q) ≡ (not (is_no_file q) && is_some (first_or (first_of_name q marks) (cond b (Some s) None)))
  names_more q true same = let is = (bytes_eq-Decides q n).0 same in rw (is, file, first_none) refl
  names_more q false same = ap (λ o. not (is_no_file q) && is_some o) (sym (first_or_none (first_of_name q marks)))

  systems_more : (q : List ℕ) (b : Bool) → bytes_eq q n ≡ b → ((s && b) || is_system_name marks q) ≡ (not (is_no_file q) && is_some_true (first_or (first_of_name q marks) (cond b (Some s) None)))
  systems_more q true same = let is = (bytes_eq-Decides q n).0 same in rw (is, file, first_none) (at_new s)
    where
      at_new : (s : Bool) → ((s && true) || false) ≡ s
      at_new true = refl
      at_new false = refl
  systems_more q false same =
      ap (λ r. r || is_system_name marks q) (and_false s) ∙ ap (λ o. not (is_no_file q) && is_some_true o) (sym (first_or_none (first_of_name q marks)))
    where
      and_false : (s : Bool) → (s && false) ≡ false
      and_false true = refl
      and_false false = refl

  pub new_added : AreNames (marks ++ Name n s ∷ []) new
  new_added = record {
    names = λ q. names q ∙ (ap (λ r. bytes_eq q n || r) (are.names q) ∙ (names_more q (bytes_eq q n) refl ∙ ap (λ o. not (is_no_file q) && is_some o) (sym (first_more q n s marks))));
    systems = λ q. systems q ∙ (ap (λ r. (s && bytes_eq q n) || r) (are.systems q) ∙ (systems_more q (bytes_eq q n) refl ∙ ap (λ o. not (is_no_file q) && is_some_true o) (sym (first_more q n s marks))));
    directories = λ d. directories d ∙ (ap (λ r. bytes_eq d (directory_of n) || r) (are.directories d) ∙ (or_swap (bytes_eq d (directory_of n)) (is_place marks d)
        ∙ (ap (λ b. is_place marks d || (not b && bytes_eq d (directory_of n))) (sym file) ∙ sym (place_more d n s marks))));
  }

-- ---- marks that follow

pub here_named : (marks : List Mark) (n : List ℕ) (s : Bool) → IsTrue (is_some (first_of_name n (marks ++ Name n s ∷ [])))
here_named marks n s = rw (first_more n n s marks, (bytes_eq-Decides n n).1 refl) (some (first_of_name n marks))
  where
    some : (o : Option Bool) → IsTrue (is_some (first_or o (Some s)))
    some None = refl
    some (Some b) = refl

pub kept_named : (marks : List Mark) (q n : List ℕ) (s : Bool) → IsTrue (is_some (first_of_name q marks)) → IsTrue (is_some (first_of_name q (marks ++ Name n s ∷ [])))
kept_named marks q n s known = rw (first_more q n s marks) (some (first_of_name q marks) (cond (bytes_eq q n) (Some s) None) known)
  where
    some : (o p : Option Bool) → IsTrue (is_some o) → IsTrue (is_some (first_or o p))
    some None p h = cc
    some (Some b) p h = refl

-- marks that are no names
data NoName : Mark → Type 0 where
  refusal : NoName Refusal
  malformed : NoName Malformed

first_other : (q : List ℕ) (m : Mark) → NoName m → (marks : List Mark) → first_of_name q (marks ++ m ∷ []) ≡ first_of_name q marks
first_other q Refusal refusal [] = refl
first_other q Malformed malformed [] = refl
first_other q (Name _ _) none [] = elim none [ ]
first_other q m none (Name n s ∷ marks) = ap (λ o. cond (bytes_eq q n) (Some s) o) (first_other q m none marks)
first_other q m none (Refusal ∷ marks) = first_other q m none marks
first_other q m none (Malformed ∷ marks) = first_other q m none marks

place_other : (d : List ℕ) (m : Mark) → NoName m → (marks : List Mark) → is_place (marks ++ m ∷ []) d ≡ is_place marks d
place_other d Refusal refusal [] = refl
place_other d Malformed malformed [] = refl
place_other d (Name _ _) none [] = elim none [ ]
place_other d m none (Name n s ∷ marks) = ap (λ r. (not (is_no_file n) && bytes_eq d (directory_of n)) || r) (place_other d m none marks)
place_other d m none (Refusal ∷ marks) = place_other d m none marks
place_other d m none (Malformed ∷ marks) = place_other d m none marks

no_name : (mark : declared.Mark) → ((name : Bor (List ℕ)) (s : Bool) → mark ≡ variant.Name name s → ⊥) → NoName (mark_of mark)
no_name (variant.Name name s) none = absurd (none name s refl)
no_name variant.Refusal none = refusal
no_name variant.Malformed none = malformed

module _ (marks : List Mark) (mark : declared.Mark) (none : (name : Bor (List ℕ)) (s : Bool) → mark ≡ variant.Name name s → ⊥) where
  pub other_added : (named : Named) → AreNames marks named → AreNames (marks ++ mark_of mark ∷ []) named
  other_added named are = record {
    names = λ q. are.names q ∙ ap (λ o. not (is_no_file q) && is_some o) (sym (first_other q (mark_of mark) (no_name mark none) marks));
    systems = λ q. are.systems q ∙ ap (λ o. not (is_no_file q) && is_some_true o) (sym (first_other q (mark_of mark) (no_name mark none) marks));
    directories = λ d. are.directories d ∙ sym (place_other d (mark_of mark) (no_name mark none) marks);
  }

  pub other_known : (q : List ℕ) → IsTrue (is_some (first_of_name q marks)) → IsTrue (is_some (first_of_name q (marks ++ mark_of mark ∷ [])))
  other_known q known = rw (first_other q (mark_of mark) (no_name mark none) marks) known

pub empty_no_file : (n : List ℕ) → length n ≡ 0 → is_no_file n ≡ true
empty_no_file [] e = refl
empty_no_file (x ∷ n) e = absurd (omega arith)

-- a mark with the name of an earlier one, or with none
pub again_added : (marks : List Mark) (n last : List ℕ) (s : Bool) (named : Named) → n ≡ last → (length last ≡ 0) ⊎ IsTrue (is_some (first_of_name last marks)) → AreNames marks named → AreNames (marks ++ Name n s ∷ []) named
again_added marks n last s named same (inl none) are = no_file_added marks n s named (empty_no_file n (ap length same ∙ none)) are
again_added marks n last s named same (inr known) are = first_added marks n s named (rw same known) are

pub again_known : (marks : List Mark) (n last : List ℕ) (s : Bool) → (length last ≡ 0) ⊎ IsTrue (is_some (first_of_name last marks)) → (length last ≡ 0) ⊎ IsTrue (is_some (first_of_name last (marks ++ Name n s ∷ [])))
again_known marks n last s (inl none) = inl none
again_known marks n last s (inr known) = inr (kept_named marks last n s known)

-- a system header is named
pub system_named : (marks : List Mark) (n : List ℕ) → IsTrue (is_system_name marks n) → IsTrue (is_named marks n)
system_named marks n h = go (not (is_no_file n)) (first_of_name n marks) h
  where
    go : (b : Bool) (o : Option Bool) → IsTrue (b && is_some_true o) → IsTrue (b && is_some o)
    go true None h = h
    go true (Some s) h = refl
    go false o h = h

-- ---- directories

slashless : (name : List ℕ) → ((k : ℕ) → k < length name → (get_or name k 0 == 47) ≡ true → ⊥) → list_any (λ b. b == 47) name ≡ false
slashless [] none = refl
slashless (x ∷ name) none = go (x == 47) refl (slashless name (λ k lt. none (suc k) (omega arith)))
  where
    go : (b : Bool) → (x == 47) ≡ b → list_any (λ b. b == 47) name ≡ false → (b || list_any (λ b. b == 47) name) ≡ false
    go true is more = absurd (none zero (omega arith) is)
    go false is more = more

slashed : (name : List ℕ) (k : ℕ) → k < length name → (get_or name k 0 == 47) ≡ true → list_any (λ b. b == 47) name ≡ true
slashed [] k within here = absurd (omega arith)
slashed (x ∷ name) zero within here = or_left _ _ here
slashed (x ∷ name) (suc k) within here = or_right _ _ (slashed name k (omega arith) here)

pub no_slash : (name : List ℕ) → ((k : ℕ) → k < length name → (get_or name k 0 == 47) ≡ true → ⊥) → directory_of name ≡ []
no_slash [] none = refl
no_slash (byte ∷ name) none = ap (λ b. cond b (byte ∷ directory_of name) []) (slashless (byte ∷ name) none)

pub last_slash : (name : List ℕ) (k : ℕ) → k < length name → (get_or name k 0 == 47) ≡ true → ((j : ℕ) → k < j → j < length name → (get_or name j 0 == 47) ≡ true → ⊥) → take (suc k) name ≡ directory_of name
last_slash [] k within here none = absurd (omega arith)
last_slash (byte ∷ name) zero within here none =
    sym (ap (λ b. cond b (byte ∷ directory_of name) []) (slashed (byte ∷ name) zero within here) ∙ ap (λ d. byte ∷ d) (no_slash name (λ j lt. none (suc j) (omega arith) (omega arith))))
last_slash (byte ∷ name) (suc k) within here none =
    ap (λ d. byte ∷ d) (last_slash name k (omega arith) here (λ j above lt. none (suc j) (omega arith) (omega arith)))
    ∙ sym (ap (λ b. cond b (byte ∷ directory_of name) []) (slashed (byte ∷ name) (suc k) within here))
