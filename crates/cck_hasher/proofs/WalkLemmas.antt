-- What the marks decide that have been read.
use Rattle.std.proofs.Common.{◌≡◌, ◌⊎◌, ◌||◌, ◌++◌, inl, inr, not, if◌then◌else◌, ℕ, Bool, true, false, List, [], ◌∷◌, Option, Some, None, refl, sym, ap, subst, ◌∙◌}
use Rattle.std.proofs.lemmas.Bool.{false≢true}
use Rattle.std.proofs.lemmas.List.{append_assoc}
use Rattle.std.specs.List.{AllByRecursion}
use Rattle.std.specs.FinMap.{empty}
use Rattle.cck_files.proofs.CallsLemmas.{calls_all, calls_among}
use Rattle.cck_files.specs.Calls.{AreCalls}
use Rattle.cck_include.proofs.EachText.{each_text}
use Rattle.cck_include.specs.Markers.{Yields, MarksLeft, Unread, unread_text}
use Rattle.cck_include.specs.Marks.{Mark, Name, Refusal, Malformed}
use Rattle.cck_path.specs.Path.{Path}
use Rattle.cck_hasher.specs.Decided.{Accepts, IsAskedFor, AsksForNone, Context, TextDecides, Digests, Errs, IsLookedFor, IsRefused, LooksForNone, Outcome, Passes, Refuses, after, decided, is_known, is_looked_for, is_passed, outcome, path_named, judgement_outcome}
use Rattle.cck_hasher.specs.Judgement.{judgement_at}

passed_by : (passed known : Bool) (o : Outcome) → not (passed || known) ≡ false → (if passed then Passes else if known then Passes else o) ≡ Passes
passed_by true known o e = refl
passed_by false true o e = refl
passed_by false false o e = absurd cc

-- a name by which no file is looked for is passed over
passed_over : (c : Context) (held : Digests) (name : List ℕ) (is_system : Bool) → is_looked_for c held name is_system ≡ false → outcome c held name is_system ≡ Passes
unfolding is_looked_for outcome
passed_over c held name is_system e =
    let p = path_named c name in
    passed_by (is_passed c.setting.config.skip_system_headers name is_system) (is_known c held p) (judgement_outcome p (judgement_at c.setting c.files p)) e

-- marks by which no file is looked for lead to no digests
no_digests : (c : Context) (d : Digests) (before marks : List Mark) (held : Digests) → d ≡ empty → AllByRecursion (AsksForNone c) (before ++ marks) → decided c (Some d) before ≡ Accepts held
    → (held ≡ empty) × AllByRecursion (AsksForNone c) marks
unfolding decided
no_digests c d [] marks held nothing none e = let same : d ≡ held = cc in (sym same ∙ nothing, none)
no_digests c d (Refusal ∷ before) marks held nothing none e = absurd cc
no_digests c d (Malformed ∷ before) marks held nothing none e = absurd cc
no_digests c d (Name name is_system ∷ before) marks held nothing none e =
    let here : is_looked_for c d name is_system ≡ false = ap (λ (x : Digests). is_looked_for c x name is_system) nothing ∙ none.0 in
    no_digests c d before marks held nothing none.1 (ap (λ o. decided c (after d o) before) (sym (passed_over c d name is_system here)) ∙ e)

-- a text that looks for no file looks for no path
pub none_asked : (c : Context) (text : List ℕ) → LooksForNone c text → (p : Path) → IsAskedFor c text p → ⊥
none_asked c text none p asked =
    let so = no_digests c empty asked.before (Name asked.name asked.is_system ∷ asked.following) asked.held refl (none _ asked.marks) asked.undecided in
    let here : is_looked_for c asked.held asked.name asked.is_system ≡ false = ap (λ (x : Digests). is_looked_for c x asked.name asked.is_system) so.0 ∙ so.1.0 in
    false≢true (sym here ∙ asked.looked_for.0)

-- marks that decide nothing, and what follows them
decided_on : (c : Context) (o : Option Digests) (before marks : List Mark) (held : Digests) → decided c o before ≡ Accepts held → decided c o (before ++ marks) ≡ decided c (Some held) marks
unfolding decided
decided_on c None before marks held e = absurd cc
decided_on c (Some d) [] marks held e = let same : d ≡ held = cc in ap (λ (x : Digests). decided c (Some x) marks) same
decided_on c (Some d) (Refusal ∷ before) marks held e = absurd cc
decided_on c (Some d) (Malformed ∷ before) marks held e = absurd cc
decided_on c (Some d) (Name name is_system ∷ before) marks held e = decided_on c (after d (outcome c d name is_system)) before marks held e

-- the marks before what is left decide nothing, and lead to these digests
pub record Passed (c : Context) (text : List ℕ) (unread : Unread) (held : Digests) : Type 0 where
  pub before : List Mark
  pub gives : Yields (unread_text text) before unread
  pub undecided : decided c (Some empty) before ≡ Accepts held

module _ (c : Context) (text : List ℕ) where
  pub at_start : (unread : Unread) (held : Digests) → unread ≡ unread_text text → held ≡ empty → Passed c text unread held
  unfolding decided
  at_start unread held same nothing = record { before = []; gives = λ marks left. subst (λ (u : Unread). MarksLeft u marks) same left; undecided = ap Accepts (sym nothing) }

  module _ (old : Unread) (held : Digests) (passed : Passed c text old held) where
    -- what is left decides, with these digests, what all of the text decides
    leads : (marks : List Mark) → MarksLeft old marks → (all : List Mark) × MarksLeft (unread_text text) all × (decided c (Some empty) all ≡ decided c (Some held) marks)
    leads marks left = (passed.before ++ marks, passed.gives marks left, decided_on c (Some empty) passed.before marks held passed.undecided)

    pub accepted : MarksLeft old [] → TextDecides c text (Accepts held)
    unfolding decided
    accepted left = leads [] left

    module _ (new : Unread) where
      pub refused : Yields old (Refusal ∷ []) new → TextDecides c text IsRefused
      unfolding decided
      refused gives =
          let rest = each_text new.starts_line new.text in
          leads (Refusal ∷ rest.0) (gives rest.0 rest.1)

      pub malformed : Yields old (Malformed ∷ []) new → TextDecides c text Errs
      unfolding decided
      malformed gives =
          let rest = each_text new.starts_line new.text in
          leads (Malformed ∷ rest.0) (gives rest.0 rest.1)

      module _ (name : List ℕ) (is_system : Bool) (gives : Yields old (Name name is_system ∷ []) new) where
        -- a name was taken
        pub passed_on : (more : Digests) → after held (outcome c held name is_system) ≡ Some more → Passed c text new more
        unfolding decided
        passed_on more does = record {
          before = passed.before ++ Name name is_system ∷ [];
          gives = λ marks left. subst (MarksLeft (unread_text text)) (sym (append_assoc passed.before (Name name is_system ∷ []) marks)) (passed.gives (Name name is_system ∷ marks) (gives marks left));
          undecided = decided_on c (Some empty) passed.before (Name name is_system ∷ []) held passed.undecided ∙ ap (λ o. decided c o []) does;
        }

        -- the name's path is looked for
        asked : (p : Path) → IsLookedFor c held name is_system p → IsAskedFor c text p
        asked p looked_for =
            let rest = each_text new.starts_line new.text in
            record {
              before = passed.before;
              name = name;
              is_system = is_system;
              following = rest.0;
              marks = passed.gives (Name name is_system ∷ rest.0) (gives rest.0 rest.1);
              held = held;
              undecided = passed.undecided;
              looked_for = looked_for;
            }

        -- the calls for the name are calls for the text
        pub calls_on : {F : Type 0} {is_call : F → Path → F → Type 0} (first between last : F) → AreCalls is_call (IsAskedFor c text) first between → AreCalls is_call (IsLookedFor c held name is_system) between last
            → AreCalls is_call (IsAskedFor c text) first last
        calls_on first between last before here = calls_all (IsAskedFor c text) first between last before (calls_among (IsLookedFor c held name is_system) (IsAskedFor c text) between last asked here)

        -- the text is refused for the name
        refused_name : outcome c held name is_system ≡ Refuses → TextDecides c text IsRefused
        unfolding decided
        refused_name why =
            let rest = each_text new.starts_line new.text in
            let all = leads (Name name is_system ∷ rest.0) (gives rest.0 rest.1) in
            (all.0, all.1, all.2 ∙ ap (λ o. decided c (after held o) rest.0) why)

        -- or a fault came where its path was looked for
        pub error_by_fault : (P Q : Type 0) → (P → Q) → (outcome c held name is_system ≡ Refuses) ⊎ (P × (is_looked_for c held name is_system ≡ true)) → TextDecides c text IsRefused ⊎ (Q × (p : Path) × IsAskedFor c text p)
        error_by_fault P Q f (inl why) = inl (refused_name why)
        error_by_fault P Q f (inr fault) = inr (f fault.0, path_named c name, asked (path_named c name) (fault.1, refl))
