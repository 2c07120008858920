-- Entry files are read in one way.
use Rattle.std.proofs.Common.{◌≡◌, ℕ, suc, List, [], ◌∷◌, ◌++◌, ◌⊎◌, inl, inr, None, get_or, map, refl, sym, ap, ◌∙◌, subst, append_assoc, append-nil, arith}
use Rattle.std.specs.List.{All}
use Rattle.std.proofs.lemmas.List.{map-append}
use Rattle.std.proofs.lemmas.List.Elements.{All-append, All-cons, All-nil}
use Rattle.cck_cache_rules.specs.PathStatus.{AreStatuses, IsStatus, Status, status_bytes, status_of, statuses_of}
use Rattle.cck_cache_rules.specs.Files.{EntryFields, IsEntryFile, entry_parts}
use Rattle.cck_cache_rules.specs.PathTest.{Test, Absent, File, Directory, Searched, Plain, Real, test_bytes}
use Rattle.cck_cache_rules.specs.Reading.{ReadsBack, ReadsBackOf}
use Rattle.cck_cache_rules.specs.declared.path_status.PathStatus.{PathStatus}
use Rattle.cck_cache_rules.proofs.PathStatusLemmas.{statuses_differ}
use Rattle.cck_cache_rules.proofs.TestLemmas.{apart, tests_differ}

-- a list of texts, of which the first are written for values of one kind, and the others for values of another
module _ {A B : Type 0} (Is : A → Type 0) (first : A → List ℕ) (second : B → List ℕ) (first_tells : (a b : A) → Is a → Is b → first a ≡ first b → a ≡ b) (second_tells : (a b : B) → second a ≡ second b → a ≡ b)
    (no_both : (a : A) (b : B) → first a ≡ second b → ⊥) where
  others_are : (ss ts : List B) → map second ss ≡ map second ts → ss ≡ ts
  others_are [] [] e = refl
  others_are [] (d ∷ ts) e = absurd cc
  others_are (b ∷ ss) [] e = absurd cc
  others_are (b ∷ ss) (d ∷ ts) e =
      let one : b ≡ d = second_tells b d cc in
      let more : ss ≡ ts = others_are ss ts cc in
      λ i. one i ∷ more i

  both_are : (fs gs : List A) (ss ts : List B) → All Is fs → All Is gs → map first fs ++ map second ss ≡ map first gs ++ map second ts → (fs ≡ gs) × (ss ≡ ts)
  both_are [] [] ss ts p q e = (refl, others_are ss ts e)
  both_are [] (c ∷ gs) [] ts p q e = absurd cc
  both_are [] (c ∷ gs) (b ∷ ss) ts p q e = let same : first c ≡ second b = cc in absurd (no_both c b same)
  both_are (a ∷ fs) [] ss [] p q e = absurd cc
  both_are (a ∷ fs) [] ss (d ∷ ts) p q e = let same : first a ≡ second d = cc in absurd (no_both a d same)
  both_are (a ∷ fs) (c ∷ gs) ss ts p q e =
      let one : a ≡ c = first_tells a c (p 0 a (omega arith)) (q 0 c (omega arith)) cc in
      let (more, others) = both_are fs gs ss ts (λ k d within. p (suc k) d (omega arith)) (λ k d within. q (suc k) d (omega arith)) cc in
      (λ i. one i ∷ more i, others)

  -- a text at one place is written for one of them
  other_is : (ss : List B) (before after : List (List ℕ)) (text : List ℕ) → map second ss ≡ before ++ text ∷ after → (b : B) × (second b ≡ text)
  other_is [] [] after text e = absurd cc
  other_is [] (x ∷ before) after text e = absurd cc
  other_is (b ∷ ss) [] after text e = (b, cc)
  other_is (b ∷ ss) (x ∷ before) after text e = other_is ss before after text cc

  one_is : (fs : List A) (ss : List B) (before after : List (List ℕ)) (text : List ℕ) → All Is fs → map first fs ++ map second ss ≡ before ++ text ∷ after → ((a : A) × (Is a × (first a ≡ text))) ⊎ ((b : B) × (second b ≡ text))
  one_is [] ss before after text p e = inr (other_is ss before after text e)
  one_is (a ∷ fs) ss [] after text p e = inl (a, (p 0 a (omega arith), cc))
  one_is (a ∷ fs) ss (x ∷ before) after text p e = one_is fs ss before after text (λ k d within. p (suc k) d (omega arith)) cc

  -- no text of the first kind follows one of the second
  none_follows : (fs gs : List A) (ss ts : List B) (b : B) (c : A) (after : List (List ℕ)) → map first fs ++ map second ss ≡ (map first gs ++ second b ∷ map second ts) ++ first c ∷ after → ⊥
  none_follows [] [] ss ts b c after e = let (other, same) = other_is ss (second b ∷ map second ts) after (first c) e in no_both c other (sym same)
  none_follows [] (x ∷ gs) [] ts b c after e = absurd cc
  none_follows [] (x ∷ gs) (y ∷ ss) ts b c after e = let same : first x ≡ second y = cc in no_both x y same
  none_follows (a ∷ fs) [] ss ts b c after e = let same : first a ≡ second b = cc in no_both a b same
  none_follows (a ∷ fs) (x ∷ gs) ss ts b c after e = none_follows fs gs ss ts b c after cc

-- no bytes are those of a status and of a test
no_both_bytes : (status : Status) (test : Test) → status_bytes status ≡ test_bytes test → ⊥
no_both_bytes status (Absent path) e = apart 115 97 (omega arith) _ _ e
no_both_bytes status (File path) e = apart 115 102 (omega arith) _ _ e
no_both_bytes status (Directory path) e = apart 115 100 (omega arith) _ _ e
no_both_bytes status (Searched path place) e = let same : 116 ≡ 101 = ap (λ (l : List ℕ). get_or l 1 0) e in omega (arith, same)
no_both_bytes status (Plain path) e = apart 115 112 (omega arith) _ _ e
no_both_bytes status (Real path real) e = apart 115 114 (omega arith) _ _ e

abbrev parts_of : List Status → List Test → List (List ℕ)
parts_of statuses tests = map status_bytes statuses ++ map test_bytes tests

pub fields_differ : (a b : EntryFields) → IsEntryFile a → IsEntryFile b → entry_parts a ≡ entry_parts b → a ≡ b
fields_differ a b p q same =
    let first : a.preprocessor_key ≡ b.preprocessor_key = cc in
    let second : a.entry ≡ b.entry = cc in
    let others : parts_of a.statuses a.tests ≡ parts_of b.statuses b.tests = cc in
    let (statuses, tests) = both_are IsStatus status_bytes test_bytes statuses_differ tests_differ no_both_bytes a.statuses b.statuses a.tests b.tests p q others in
    λ i. record { preprocessor_key = first i; entry = second i; statuses = statuses i; tests = tests i }

-- a part that is no status and no test, after others
pub no_file : (file : EntryFields) (key entry : List ℕ) (before after : List (List ℕ)) (part : List ℕ) → IsEntryFile file → ReadsBackOf IsStatus status_bytes part None → ReadsBack test_bytes part None
    → entry_parts file ≡ key ∷ entry ∷ (before ++ part ∷ after) → ⊥
no_file file key entry before after part right no_status no_test same =
    let others : parts_of file.statuses file.tests ≡ before ++ part ∷ after = cc in
    elim (one_is IsStatus status_bytes test_bytes statuses_differ tests_differ no_both_bytes file.statuses file.tests before after part right others) [
      | inl found ↦ no_status found.0 found.1.0 found.1.1
      | inr found ↦ no_test found.0 found.1
    ]

-- a status that follows a test
pub no_order : (file : EntryFields) (key entry : List ℕ) (statuses : List Status) (tests : List Test) (status : Status) (after : List (List ℕ)) (part : List ℕ) → (tests ≡ [] → ⊥) → status_bytes status ≡ part
    → entry_parts file ≡ key ∷ entry ∷ (parts_of statuses tests ++ part ∷ after) → ⊥
no_order file key entry statuses [] status after part some is same = some refl
no_order file key entry statuses (test ∷ tests) status after part some is same =
    let others : parts_of file.statuses file.tests ≡ parts_of statuses (test ∷ tests) ++ part ∷ after = cc in
    none_follows IsStatus status_bytes test_bytes statuses_differ tests_differ no_both_bytes file.statuses statuses file.tests tests test status after
    (others ∙ ap (λ (p : List ℕ). parts_of statuses (test ∷ tests) ++ p ∷ after) (sym is))

-- the parts of one more status, before any test
pub next_status : (all left rest : List (List ℕ)) (before after : List PathStatus) (tests : List Test) (status : PathStatus) (part : List ℕ) → all ≡ parts_of (statuses_of before) tests ++ left → left ≡ part ∷ rest
    → after ≡ before ++ status ∷ [] → tests ≡ [] → status_bytes (status_of status) ≡ part → all ≡ parts_of (statuses_of after) tests ++ rest
next_status all left rest before after tests status part so_far first more none is =
    let known = map status_bytes (statuses_of before) in
    let written : map status_bytes (statuses_of after) ≡ known ++ part ∷ [] =
    ap (λ (ss : List PathStatus). map status_bytes (statuses_of ss)) more
    ∙ (ap (map status_bytes) (map-append status_of before (status ∷ []))
    ∙ (map-append status_bytes (statuses_of before) (status_of status ∷ []) ∙ ap (λ (b : List ℕ). known ++ b ∷ []) is))
    in
    let old : all ≡ known ++ left = so_far ∙ ap (λ (ts : List Test). parts_of (statuses_of before) ts ++ left) none ∙ ap (λ (l : List (List ℕ)). l ++ left) (append-nil known) in
    let new : parts_of (statuses_of after) tests ++ rest ≡ known ++ part ∷ rest =
    ap (λ (ts : List Test). parts_of (statuses_of after) ts ++ rest) none
    ∙ (ap (λ (l : List (List ℕ)). l ++ rest) (append-nil (map status_bytes (statuses_of after)) ∙ written) ∙ append_assoc known (part ∷ []) rest)
    in
    old ∙ (ap (λ (l : List (List ℕ)). known ++ l) first ∙ sym new)

-- one more is a status that a program has
pub more_are : (before after : List PathStatus) (status : PathStatus) → AreStatuses (statuses_of before) → IsStatus (status_of status) → after ≡ before ++ status ∷ [] → AreStatuses (statuses_of after)
more_are before after status are is more =
    subst AreStatuses (sym (ap statuses_of more ∙ map-append status_of before (status ∷ [])))
    (All-append IsStatus (statuses_of before) (status_of status ∷ []) are (All-cons IsStatus (status_of status) [] is (All-nil IsStatus)))
