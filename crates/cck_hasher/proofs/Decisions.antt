-- What the marks of a text decide, as the verdict on it.
use Rattle.std.proofs.Common.{◌≡◌, ◌⊎◌, inl, inr, Bool, true, false, if◌then◌else◌, is_some, List, [], ◌∷◌, Option, Some, None, Ok, refl, sym, ap, subst, ◌∙◌}
use Rattle.std.proofs.lemmas.Bool.{false≢true, or_cases, or_parts}
use Rattle.std.specs.FinMap.{get, get-empty, get-insert, empty, insert}
use Rattle.std.specs.Ordering.{eq_by_cmp}
use Rattle.std.specs.Prelude.{Contains, cond}
use Rattle.std.proofs.lemmas.Option.{same_Some, none-some}
use Rattle.cck_files.specs.FileMap.{FileNode, file_at, folder_at}
use Rattle.cck_include.specs.Marks.{Mark, Name, Refusal, Malformed}
use Rattle.cck_path.specs.Bytes.{Bytes}
use Rattle.cck_path.specs.Path.{Path, components, path_cmp, path_cmp_total}
use Rattle.cck_hasher.specs.Decided.{Accepts, Decided, Digests, IsRefused, Outcome, Passes, Records, Refuses, after, decided, is_known, is_passed, outcome, path_outcome, judgement_outcome}
use Rattle.cck_hasher.specs.Decided as decision
use Rattle.cck_hasher.specs.Judgement.{Judgement, Folder, Regular, Bad, judgement_at}
use Rattle.cck_path.proofs.TestLemmas.{tied}
use Rattle.cck_hasher.proofs.Elements.{first_in, later_in, none_in, one_of}
use Rattle.cck_hasher.proofs.NameTests.{passed_for, taken_for}
use Rattle.cck_hasher.proofs.PathEntries.{path_itself}
use Rattle.cck_hasher.proofs.Judgements.{IsRegular, folder_or_file, judgement_bad, judgement_folder, judgement_regular}
use Rattle.cck_hasher.specs.Call.{Call}
use Rattle.cck_hasher.specs.Walk.{MarksDecide, IsGood, IsLooked, Verdict, input_path, meant_path}
use Rattle.cck_hasher.specs.Walked.{verdict_of, walk_context}
use Rattle.cck_hasher.specs.World.{World, setting}

is_there : {A : Type 0} (o : Option A) → is_some o ≡ true → (x : A) × (o ≡ Some x)
is_there None h = cc
is_there (Some x) h = (x, refl)

is_missing : {A : Type 0} (o : Option A) → is_some o ≡ false → o ≡ None
is_missing None h = refl
is_missing (Some x) h = cc

module _ {V : Type 0} (w : World V) (c : Call V) where
  -- the outcome of a name, and why
  pub data Does (held : Digests) (name : Bytes) (system : Bool) (o : Outcome) : Type 0 where
    unlooked : (IsLooked w c name system → ⊥) → o ≡ Passes → Does held name system o
    known : (digest : Bytes) → get held (meant_path c name) ≡ Some digest → o ≡ Passes → Does held name system o
    of_folder : folder_at c.files (meant_path c name) ≡ Ok tt → o ≡ Passes → Does held name system o
    records : (digest : Bytes) → IsLooked w c name system → get held (meant_path c name) ≡ None → IsRegular w c (meant_path c name) digest → o ≡ Records (meant_path c name) digest
        → Does held name system o
    refuses : IsLooked w c name system → (IsGood w c (meant_path c name) → ⊥) → o ≡ Refuses → Does held name system o

  module _ (held : Digests) (name : Bytes) (system : Bool) where
    by_judgement : IsLooked w c name system → get held (meant_path c name) ≡ None → (s : Judgement) → judgement_at (setting w c) c.files (meant_path c name) ≡ s
        → (o : Outcome) → o ≡ judgement_outcome (meant_path c name) s → Does held name system o
    by_judgement looked none Folder present o is = of_folder (judgement_folder w c (meant_path c name) present) is
    by_judgement looked none (Regular digest) present o is = records digest looked none (judgement_regular w c (meant_path c name) digest present) is
    by_judgement looked none Bad present o is = refuses looked (judgement_bad w c (meant_path c name) present) is

    by_path : (b : Bool) → is_known (walk_context w c) held (meant_path c name) ≡ b → is_passed w.config.skip_system_headers name system ≡ false
        → (o : Outcome) → o ≡ (if b then Passes else judgement_outcome (meant_path c name) (judgement_at (setting w c) c.files (meant_path c name))) → Does held name system o
    unfolding is_known
    by_path true is passed o does =
        let p = meant_path c name in
        elim (or_cases (is_some (get held p)) (eq_by_cmp path_cmp p (components (input_path c))) is) [
          | inl has ↦ (let (digest, at) = is_there (get held p) has in known digest at does)
          | inr input ↦ unlooked (λ looked. looked.other (tied p (components (input_path c)) input)) does
        ]
    by_path false is passed o does =
        let p = meant_path c name in
        let parts = or_parts (is_some (get held p)) (eq_by_cmp path_cmp p (components (input_path c))) is in
        let (some, angled, wanted) = taken_for w.config.skip_system_headers name system passed in
        by_judgement
        (record {
          some = some;
          not_angled = λ inner is. angled (inner, is);
          wanted = wanted;
          other = λ e. false≢true (sym parts.1 ∙ ap (eq_by_cmp path_cmp p) (sym e) ∙ path_itself p);
        })
        (is_missing (get held p) parts.0) (judgement_at (setting w c) c.files p) refl o does

    by_test : (b : Bool) → is_passed w.config.skip_system_headers name system ≡ b
        → (o : Outcome) → o ≡ (if b then Passes else path_outcome (walk_context w c) held (meant_path c name)) → Does held name system o
    by_test true is o does = unlooked (λ looked. passed_for w.config.skip_system_headers name system is looked.some (λ (inner, is). looked.not_angled inner is) looked.wanted) does
    by_test false is o does = by_path (is_known (walk_context w c) held (meant_path c name)) refl is o does

    pub happens : Does held name system (outcome (walk_context w c) held name system)
    unfolding outcome
    happens = by_test (is_passed w.config.skip_system_headers name system) refl _ refl

  -- the digests are those of old regular files
  abbrev pub AreRegular : Digests → Type 0
  AreRegular held = (p : Path) (digest : Bytes) → get held p ≡ Some digest → IsRegular w c p digest

  pub none_regular : AreRegular empty
  none_regular p digest h = absurd (none-some _ (sym (get-empty path_cmp p) ∙ h))

  set_at : (held : Digests) (p q : Path) (digest own : Bytes) (b : Bool) → eq_by_cmp path_cmp q p ≡ b → cond b (Some digest) (get held q) ≡ Some own
      → ((q ≡ p) × (digest ≡ own)) ⊎ (get held q ≡ Some own)
  set_at held p q digest own true is h = inl (tied q p is, same_Some digest own h)
  set_at held p q digest own false is h = inr h

  -- the digests after one was set
  set_in : (held : Digests) (p q : Path) (digest own : Bytes) → get (insert held p digest) q ≡ Some own → ((q ≡ p) × (digest ≡ own)) ⊎ (get held q ≡ Some own)
  set_in held p q digest own h = set_at held p q digest own (eq_by_cmp path_cmp q p) refl (sym (get-insert path_cmp_total held p digest q) ∙ h)

  set_here : (held : Digests) (p : Path) (digest : Bytes) → get (insert held p digest) p ≡ Some digest
  set_here held p digest = get-insert path_cmp_total held p digest p ∙ ap (λ b. cond b (Some digest) (get held p)) (path_itself p)

  more_regular : (held : Digests) (p : Path) (digest : Bytes) → AreRegular held → IsRegular w c p digest → AreRegular (insert held p digest)
  more_regular held p digest all one q own h =
      elim (set_in held p q digest own h) [
        | inl same ↦ subst (λ r. IsRegular w c r own) (sym same.0) (subst (IsRegular w c p) same.1 one)
        | inr old ↦ all q own old
      ]

  good : (p : Path) (digest : Bytes) → IsRegular w c p digest → IsGood w c p
  good p digest (n, file, old, own) = inr (n, file, old, λ none. (none-some _ (sym none ∙ own)))

  module _ (held : Digests) (regular : AreRegular held) (name : Bytes) (system : Bool) (marks : List Mark)
      (others : (more : Digests) → AreRegular more → MarksDecide w c marks (verdict_of (decided (walk_context w c) (Some more) marks))) where
    abbrev After : Outcome → Type 0
    After o = MarksDecide w c (Name name system ∷ marks) (verdict_of (decided (walk_context w c) (after held o) marks))

    name_decides : (o : Outcome) → Does held name system o → After o
    unfolding decided
    name_decides o (unlooked not is) = subst After (sym is) (inl (λ looked. absurd (not looked), others held regular))
    name_decides o (known digest at is) = subst After (sym is) (inl (λ looked. good (meant_path c name) digest (regular (meant_path c name) digest at), others held regular))
    name_decides o (of_folder at is) = subst After (sym is) (inl (λ looked. inl at, others held regular))
    name_decides o (records digest looked none one is) =
        subst After (sym is) (inl (λ looked. good (meant_path c name) digest one, others (insert held (meant_path c name) digest) (more_regular held (meant_path c name) digest regular one)))
    name_decides o (refuses looked bad is) = subst After (sym is) (inr (looked, bad, refl))

  -- marks decide the verdict of their outcomes
  pub claim : (marks : List Mark) (held : Digests) → AreRegular held → MarksDecide w c marks (verdict_of (decided (walk_context w c) (Some held) marks))
  unfolding decided
  claim [] held regular = refl
  claim (Refusal ∷ marks) held regular = refl
  claim (Malformed ∷ marks) held regular = refl
  claim (Name name system ∷ marks) held regular = name_decides held regular name system marks (claim marks) (outcome (walk_context w c) held name system) (happens held name system)

  -- marks decide one verdict
  pub one_decision : (marks : List Mark) (u v : Verdict) → MarksDecide w c marks u → MarksDecide w c marks v → u ≡ v
  one_decision [] u v d e = d ∙ sym e
  one_decision (Refusal ∷ marks) u v d e = d ∙ sym e
  one_decision (Malformed ∷ marks) u v d e = d ∙ sym e
  one_decision (Name name system ∷ marks) u v (inl d) (inl e) = one_decision marks u v d.1 e.1
  one_decision (Name name system ∷ marks) u v (inl d) (inr e) = absurd (e.1 (d.0 e.0))
  one_decision (Name name system ∷ marks) u v (inr d) (inl e) = absurd (d.1 (e.0 d.0))
  one_decision (Name name system ∷ marks) u v (inr d) (inr e) = d.2 ∙ sym e.2

  -- these marks have a name that is looked at and means this path
  abbrev pub IsMeant : List Mark → Path → Type 0
  IsMeant marks p = (name : Bytes) × (system : Bool) × Contains marks (Name name system) × IsLooked w c name system × (p ≡ meant_path c name)

  -- The digests at the end are those from before and those of the regular files that are meant.
  pub record AreGathered (marks : List Mark) (held digests : Digests) : Type 0 where
    pub kept : (p : Path) (digest : Bytes) → get held p ≡ Some digest → get digests p ≡ Some digest
    pub from : (p : Path) (digest : Bytes) → get digests p ≡ Some digest → (get held p ≡ Some digest) ⊎ (IsMeant marks p × IsRegular w c p digest)
    pub all : (p : Path) (n : FileNode) → IsMeant marks p → file_at c.files p ≡ Ok n → (digest : Bytes) × (get digests p ≡ Some digest)

  not_failed : (digests : Digests) → IsRefused ≡ Accepts digests → ⊥
  not_failed digests h = cc

  not_malformed : (digests : Digests) → decision.Errs ≡ Accepts digests → ⊥
  not_malformed digests h = cc

  same_digests : (held digests : Digests) → Accepts held ≡ Accepts digests → held ≡ digests
  same_digests held digests h = cc

  meant_later : (mark : Mark) (marks : List Mark) (p : Path) → IsMeant marks p → IsMeant (mark ∷ marks) p
  meant_later mark marks p (name, system, at, looked, is) = (name, system, later_in mark (Name name system) marks at, looked, is)

  same_name : (name other : Bytes) (system more : Bool) → Name name system ≡ Name other more → (name ≡ other) × (system ≡ more)
  same_name name other system more e = (cc, cc)

  module _ (held digests : Digests) (name : Bytes) (system : Bool) (marks : List Mark) where
    -- a path that is meant is meant by the first name or by a later one
    meant_by : (p : Path) → IsMeant (Name name system ∷ marks) p → (IsLooked w c name system × (p ≡ meant_path c name)) ⊎ IsMeant marks p
    meant_by p (other, more, at, looked, is) =
        elim (one_of (Name name system) (Name other more) marks at) [
          | inl e ↦ (let (same, also) = same_name name other system more e in inl (subst (λ n. IsLooked w c n system) (sym same) (subst (IsLooked w c other) (sym also) looked), is ∙ ap (meant_path c) (sym same)))
          | inr later ↦ inr (other, more, later, looked, is)
        ]

    -- the name adds nothing
    passes : ((n : FileNode) → IsLooked w c name system → file_at c.files (meant_path c name) ≡ Ok n → (digest : Bytes) × (get held (meant_path c name) ≡ Some digest))
        → AreGathered marks held digests → AreGathered (Name name system ∷ marks) held digests
    passes has rest = record {
      kept = rest.kept;
      from = λ p digest h. elim (rest.from p digest h) [
        | inl old ↦ inl old
        | inr (meant, one) ↦ inr (meant_later (Name name system) marks p meant, one)
      ];
      all = λ p n meant file. elim (meant_by p meant) [
        | inl here ↦
            (let (digest, at) = has n here.0 (ap (file_at c.files) (sym here.1) ∙ file) in
            (digest, rest.kept p digest (ap (get held) here.1 ∙ at)))
        | inr later ↦ rest.all p n later file
      ];
    }

    -- the name adds the digest of its file
    adds : (digest : Bytes) → IsLooked w c name system → get held (meant_path c name) ≡ None → IsRegular w c (meant_path c name) digest
        → AreGathered marks (insert held (meant_path c name) digest) digests → AreGathered (Name name system ∷ marks) held digests
    adds own looked none one rest =
        let at = meant_path c name in
        record {
          kept = λ p digest h. rest.kept p digest (kept_beside p digest h (eq_by_cmp path_cmp p at) refl);
          from = λ p digest h. elim (rest.from p digest h) [
            | inl set ↦ (elim (set_in held at p own digest set) [
              | inl here ↦ inr ((name, system, first_in (Name name system) marks, looked, here.0), subst (λ q. IsRegular w c q digest) (sym here.0) (subst (IsRegular w c at) here.1 one))
              | inr old ↦ inl old
            ])
            | inr (meant, regular) ↦ inr (meant_later (Name name system) marks p meant, regular)
          ];
          all = λ p n meant file. elim (meant_by p meant) [
            | inl here ↦ (own, rest.kept p own (ap (get (insert held at own)) here.1 ∙ set_here held at own))
            | inr later ↦ rest.all p n later file
          ];
        }
      where
        kept_beside : (p : Path) (digest : Bytes) → get held p ≡ Some digest → (b : Bool) → eq_by_cmp path_cmp p (meant_path c name) ≡ b → get (insert held (meant_path c name) own) p ≡ Some digest
        kept_beside p digest h true is = absurd (none-some _ (sym none ∙ ap (get held) (sym (tied p (meant_path c name) is)) ∙ h))
        kept_beside p digest h false is = get-insert path_cmp_total held (meant_path c name) own p ∙ ap (λ b. cond b (Some own) (get held p)) is ∙ h

    name_gathers : ((more : Digests) → decided (walk_context w c) (Some more) marks ≡ Accepts digests → AreGathered marks more digests)
        → (o : Outcome) → Does held name system o → decided (walk_context w c) (after held o) marks ≡ Accepts digests → AreGathered (Name name system ∷ marks) held digests
    unfolding decided
    name_gathers others o (unlooked not is) h =
        passes (λ n looked file. absurd (not looked)) (others held (ap (λ e. decided (walk_context w c) (after held e) marks) (sym is) ∙ h))
    name_gathers others o (known digest at is) h =
        passes (λ n looked file. (digest, at)) (others held (ap (λ e. decided (walk_context w c) (after held e) marks) (sym is) ∙ h))
    name_gathers others o (of_folder at is) h =
        passes (λ n looked file. absurd (folder_or_file w c (meant_path c name) n at file)) (others held (ap (λ e. decided (walk_context w c) (after held e) marks) (sym is) ∙ h))
    name_gathers others o (records digest looked none one is) h =
        adds digest looked none one (others (insert held (meant_path c name) digest) (ap (λ e. decided (walk_context w c) (after held e) marks) (sym is) ∙ h))
    name_gathers others o (refuses looked bad is) h = absurd (not_failed digests (ap (λ e. decided (walk_context w c) (after held e) marks) (sym is) ∙ h))

  pub gathers : (marks : List Mark) (held digests : Digests) → decided (walk_context w c) (Some held) marks ≡ Accepts digests → AreGathered marks held digests
  unfolding decided
  gathers [] held digests h =
      let same = same_digests held digests h in
      record {
        kept = λ p digest at. ap (λ m. get m p) (sym same) ∙ at;
        from = λ p digest at. inl (ap (λ m. get m p) same ∙ at);
        all = λ p n meant file. absurd (none_in _ meant.2);
      }
  gathers (Refusal ∷ marks) held digests h = absurd (not_failed digests h)
  gathers (Malformed ∷ marks) held digests h = absurd (not_malformed digests h)
  gathers (Name name system ∷ marks) held digests h =
      name_gathers held digests name system marks (λ more. gathers marks more digests) (outcome (walk_context w c) held name system) (happens held name system) h
