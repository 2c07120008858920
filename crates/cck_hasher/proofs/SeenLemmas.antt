-- The names that a walk has taken, and their outcomes later.
use Rattle.std.proofs.Common.{◌≡◌, ◌⊎◌, ◌||◌, inl, inr, if◌then◌else◌, ℕ, ◌<◌, Bool, true, false, List, Option, Some, None, is_some, get_or, length, map, set, replicate, refl, sym, ap, ◌∙◌, arith, subst}
use Rattle.std.proofs.lemmas.Bool.{cases_lt}
use Rattle.std.proofs.lemmas.Bool.Decides.{eqb_tells}
use Rattle.std.proofs.lemmas.Cmp.{eq_by_cmp_equiv}
use Rattle.std.proofs.lemmas.List.{get_or-map, get_or-replicate, get_or-set_other, get_or-set_same, get_or_past, length-map, length-replicate, length-set, map-set}
use Rattle.std.specs.FinMap.{get, get-insert, insert}
use Rattle.std.specs.Option.{option_map}
use Rattle.std.specs.Ordering.{eq_by_cmp}
use Rattle.std.specs.Prelude.{Contains}
use Rattle.cck_path.specs.Path.{Path, path_cmp, path_cmp_total}
use Rattle.cck_hasher.specs.Decided.{Context, Digests, Outcome, Passes, Records, Refuses, after, is_known, is_passed, outcome, path_named, judgement_outcome}
use Rattle.cck_hasher.specs.SeenNames.{AllPass, name_in, names_in}
use Rattle.cck_hasher.specs.Judgement.{Judgement, Folder, Regular, Bad, judgement_at}
use Rattle.cck_hasher.specs.declared.seen.SeenName.{SeenName}
use Rattle.cck_hasher.specs.declared.seen.SeenNames.{SeenNames}

abbrev Slots : Type 0
Slots = List (Option SeenName)

abbrev Names : Slots → List (Option (List ℕ × Bool))
Names slots = map (option_map name_in) slots

-- the name in a slot is remembered
pub found : (slots : Slots) (i : ℕ) (seen : SeenName) → get_or slots i None ≡ Some seen → Contains (Names slots) (Some (name_in seen))
found slots i seen at =
    elim (cases_lt i (length slots)) [
      | inl low ↦ (i, omega (arith, low, length-map slots (option_map name_in)), get_or-map (option_map name_in) slots i None _ low ∙ ap (option_map name_in) at)
      | inr past ↦ absurd (apart (sym (get_or_past slots i None past) ∙ at))
    ]
  where
    apart : None ≡ Some seen → ⊥
    apart e = cc

-- the names that are remembered after a slot was filled
set_slot : {X : Type 0} (xs : List X) (i : ℕ) (y x : X) → Contains (set xs i y) x → Contains xs x ⊎ (x ≡ y)
set_slot xs i y x (k, low, at) =
    let within : k < length xs = omega (arith, low, length-set xs i y) in
    elim (eqb_tells k i) [
      | inl same ↦ inr (sym at ∙ ap (λ j. get_or (set xs i y) j x) same.1 ∙ get_or-set_same xs i y x (omega (arith, within, same.1)))
      | inr apart ↦ inl (k, within, sym (get_or-set_other xs i k y x apart.1) ∙ at)
    ]

pub filled : (slots : Slots) (i : ℕ) (seen : SeenName) (name : List ℕ × Bool) → Contains (Names (set slots i (Some seen))) (Some name) → Contains (Names slots) (Some name) ⊎ (name ≡ name_in seen)
filled slots i seen name has =
    elim (set_slot (Names slots) i (Some (name_in seen)) (Some name) (subst (λ names. Contains names (Some name)) (map-set (option_map name_in) slots i (Some seen)) has)) [
      | inl before ↦ inl before
      | inr same ↦ inr cc
    ]

abbrev empty_slots : ℕ → Slots
empty_slots n = replicate n None

-- empty slots remember no name
pub no_names : (n : ℕ) (name : List ℕ × Bool) → Contains (Names (empty_slots n)) (Some name) → ⊥
no_names n name (k, low, at) =
    let nothing : Option SeenName = None in
    let long : length (empty_slots n) ≡ n = length-replicate n nothing in
    let within : k < n = omega (arith, low, length-map (empty_slots n) (option_map name_in), long) in
    let none : get_or (Names (empty_slots n)) k (Some name) ≡ None =
    get_or-map (option_map name_in) (empty_slots n) k nothing (Some name) (omega (arith, within, long)) ∙ ap (option_map name_in) (get_or-replicate n k nothing nothing within) in
    apart (sym at ∙ none)
  where
    apart : Some name ≡ None → ⊥
    apart e = cc

-- ---- the outcome of a name, where more paths have a digest

more_known : (c : Context) (held : Digests) (p q : Path) (digest : List ℕ) → is_known c held q ≡ true → is_known c (insert held p digest) q ≡ true
unfolding is_known
more_known c held p q digest known = go (eq_by_cmp path_cmp q p) refl
  where
    either : (a b : Bool) → (a || b) ≡ true → (a' : Bool) → (a ≡ true → a' ≡ true) → (a' || b) ≡ true
    either true b e a' h = rw (h refl) refl
    either false true e true h = refl
    either false true e false h = refl
    either false false e a' h = absurd cc

    go : (b : Bool) → eq_by_cmp path_cmp q p ≡ b → (is_some (get (insert held p digest) q) || eq_by_cmp path_cmp q c.input) ≡ true
    go b is = either (is_some (get held q)) (eq_by_cmp path_cmp q c.input) known (is_some (get (insert held p digest) q)) (λ there. ap is_some (get-insert path_cmp_total held p digest q) ∙ kept b is there)
      where
        kept : (b : Bool) → eq_by_cmp path_cmp q p ≡ b → is_some (get held q) ≡ true → is_some (if eq_by_cmp path_cmp q p then Some digest else get held q) ≡ true
        kept true e there = rw e refl
        kept false e there = rw e there

passes_still : (passed known known' : Bool) (o : Outcome) → (known ≡ true → known' ≡ true)
    → (if passed then Passes else if known then Passes else o) ≡ Passes → (if passed then Passes else if known' then Passes else o) ≡ Passes
passes_still true known known' o more e = refl
passes_still false known true o more e = refl
passes_still false true false o more e = absurd (false_true (more refl))
  where
    false_true : false ≡ true → ⊥
    false_true h = cc
passes_still false false false o more e = e

-- a name that is passed over is passed over with one more digest
pub passes_on : (c : Context) (held : Digests) (p : Path) (digest name : List ℕ) (is_system : Bool) → outcome c held name is_system ≡ Passes → outcome c (insert held p digest) name is_system ≡ Passes
unfolding outcome
passes_on c held p digest name is_system e =
    let q = path_named c name in
    passes_still (is_passed c.setting.config.skip_system_headers name is_system) (is_known c held q) (is_known c (insert held p digest) q) (judgement_outcome q (judgement_at c.setting c.files q)) (more_known c held p q digest) e

path_recorded : (passed known : Bool) (q p : Path) (s : Judgement) (digest : List ℕ) → (if passed then Passes else if known then Passes else judgement_outcome q s) ≡ Records p digest → p ≡ q
path_recorded true known q p s digest e = absurd (apart e)
  where
    apart : Passes ≡ Records p digest → ⊥
    apart h = cc
path_recorded false true q p s digest e = absurd (apart e)
  where
    apart : Passes ≡ Records p digest → ⊥
    apart h = cc
path_recorded false false q p Folder digest e = absurd (apart e)
  where
    apart : Passes ≡ Records p digest → ⊥
    apart h = cc
path_recorded false false q p (Regular other) digest e = cc
path_recorded false false q p Bad digest e = absurd (apart e)
  where
    apart : Refuses ≡ Records p digest → ⊥
    apart h = cc

passes_known : (passed known : Bool) (o : Outcome) → known ≡ true → (if passed then Passes else if known then Passes else o) ≡ Passes
passes_known true known o e = refl
passes_known false known o e = rw e refl

-- a name whose file was recorded is passed over after that
passes_recorded : (c : Context) (held : Digests) (p : Path) (digest name : List ℕ) (is_system : Bool) → outcome c held name is_system ≡ Records p digest → outcome c (insert held p digest) name is_system ≡ Passes
unfolding outcome is_known
passes_recorded c held p digest name is_system e =
    let q = path_named c name in
    let s = judgement_at c.setting c.files q in
    let same : p ≡ q = path_recorded (is_passed c.setting.config.skip_system_headers name is_system) (is_known c held q) q p s digest e in
    let tie : eq_by_cmp path_cmp q p ≡ true = subst (λ r. eq_by_cmp path_cmp q r ≡ true) (sym same) ((eq_by_cmp_equiv path_cmp_total).refl q) in
    let there : is_some (get (insert held p digest) q) ≡ true = ap is_some (get-insert path_cmp_total held p digest q) ∙ rw tie refl in
    passes_known (is_passed c.setting.config.skip_system_headers name is_system) (is_known c (insert held p digest) q) (judgement_outcome q s) (rw there refl)

-- with these digests, the name is passed over, and so are those that were passed over before
abbrev pub Still : Context → Digests → List ℕ → Bool → Digests → Type 0
Still c held name is_system more =
    ((other : List ℕ) (its_system : Bool) → outcome c held other its_system ≡ Passes → outcome c more other its_system ≡ Passes) × (outcome c more name is_system ≡ Passes)

-- this holds after the name was taken
pub taken : (c : Context) (held more : Digests) (name : List ℕ) (is_system : Bool) → after held (outcome c held name is_system) ≡ Some more → Still c held name is_system more
taken c held more name is_system e = go (outcome c held name is_system) refl e
  where
    go : (o : Outcome) → outcome c held name is_system ≡ o → after held o ≡ Some more → Still c held name is_system more
    go Passes is e = let same : held ≡ more = cc in subst (Still c held name is_system) same (λ other its_system h. h, is)
    go (Records p digest) is e =
        let same : insert held p digest ≡ more = cc in
        subst (Still c held name is_system) same (λ other its_system h. passes_on c held p digest other its_system h, passes_recorded c held p digest name is_system is)
    go Refuses is e = absurd cc

-- the names that are remembered are passed over, after one more was taken and is remembered
pub all_pass : (c : Context) (held more : Digests) (old new : SeenNames) (name : List ℕ) (is_system : Bool) → AllPass c held old → after held (outcome c held name is_system) ≡ Some more
    → ((other : List ℕ) (its_system : Bool) → Contains (names_in new) (Some (other, its_system)) → Contains (names_in old) (Some (other, its_system)) ⊎ ((other ≡ name) × (its_system ≡ is_system)))
    → AllPass c more new
all_pass c held more old new name is_system before does filled other its_system has =
    let still = taken c held more name is_system does in
    elim (filled other its_system has) [
      | inl there ↦ still.0 other its_system (before other its_system there)
      | inr same ↦ subst (λ (n : List ℕ × Bool). outcome c more n.0 n.1 ≡ Passes) (sym (λ i. (same.0 i, same.1 i))) still.1
    ]
