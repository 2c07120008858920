-- The states that are kept of paths.
use Rattle.std.proofs.Common.{◌≡◌, ◌≢◌, ◌<◌, ◌≤◌, ◌+◌, ◌⊎◌, ℕ, zero, suc, List, length, take, Bool, true, false, Option, Some, None, Bor, IsTrue, IsUtf8, MatchBool, MatchOption, inl, inr, refl, sym, ap, ◌∙◌, subst, ⊎_elim, arith, BuildHasherDefault, FoldHasher}
use Rattle.std.proofs.lemmas.Bool.{cases_Bool}
use Rattle.std.proofs.lemmas.List.{length-take-le, take_all}
use Rattle.std.proofs.lemmas.Str.{IsUtf8-from_is_utf8, is_utf8-from_IsUtf8}
use Rattle.std.proofs.lemmas.Cmp.{nat_list_eq_equiv}
use Rattle.std.proofs.lemmas.Slice.Eq.{bytes_eq-Decides}
use Rattle.std.specs.HashMap.{HashMap, UpdatesBy, get_by}
use Rattle.std.specs.Global.{Vec}
use Rattle.std.specs.Map.{KeepsOthers}
use Rattle.std.specs.Prelude.{ltb}
use Rattle.std.specs.Str.{bytes_eq, is_utf8}
use denote.Enum.Bare.{sameb}
use Rattle.cck_cache_files.specs.PathStates.{AreOnTheWay, EndsAt, HasOther, IsFirstEnd, IsFirstOther, IsStateOf, IsUnchanged, KeepsStates, LeadsOn, LeadsOnBy, state_at}
use Rattle.cck_cache_files.specs.declared.path_states.PathState.{PathState}
use Rattle.cck_cache_files.specs.declared.path_states.PathState.TheVariants.{Directory, Doubtful, Link}
use Rattle.cck_cache_files.specs.declared.path_states.PathStates.{PathStates}
use Rattle.cck_cache_files.specs.contracts.path_states.PathState.{the_type}

-- ---- one more state

abbrev Known : Type 0
Known = HashMap (Vec ℕ) PathState (BuildHasherDefault FoldHasher)

abbrev pub same_name : Vec ℕ → Vec ℕ → Bool
same_name a b = bytes_eq a.items b.items

-- bytes that are not those of a path are at no key of the path
pub apart : (path other key : List ℕ) → other ≢ path → bytes_eq path key ≡ true → bytes_eq other key ≡ false
apart path other key ne e =
    let same : path ≡ key = (bytes_eq-Decides path key).0 e in
    ⊎_elim
    (λ y. absurd (ne ((bytes_eq-Decides other key).0 y ∙ sym same)))
    (λ n. n)
    (cases_Bool (bytes_eq other key))

-- other paths keep what they have
others_kept : (path : List ℕ) (old new : Known) (w : Option PathState) → UpdatesBy same_name (λ k. bytes_eq path k.items) old new w
    → (other : List ℕ) → other ≢ path → get_by (λ k. bytes_eq other k.items) new ≡ get_by (λ k. bytes_eq other k.items) old
unfolding KeepsOthers
others_kept path old new w h other ne =
    h.3 (λ k. bytes_eq other k.items) (λ x y. nat_list_eq_equiv.congr other x.items y.items) (λ k. apart path other k.items ne)

-- a state was added
pub state_added : (old : PathStates) (new : Known) (key : Vec ℕ) (path : List ℕ) (state : PathState) → key.items ≡ path → state_at old path ≡ None
    → UpdatesBy same_name (λ k. bytes_eq key.items k.items) old.states new (Some state) → (¬ (IsUtf8 path) → state ≡ Doubtful)
    → IsStateOf old (record { since = old.since; states = new }) path state
state_added old new key path state e none updates text =
    let P : List ℕ → Type 0 = λ p. UpdatesBy same_name (λ k. bytes_eq p k.items) old.states new (Some state) in
    let at = subst P e updates in
    record {
      since = refl;
      state_is = at.1;
      kept = λ known h. let two : None ≡ Some known = sym none ∙ h in cc;
      others = others_kept path old.states new (Some state) at;
      no_text = λ _ h. text h;
    }

-- a path that is in doubt where it is no text has another state only where it is text
pub other_is_text : (path : List ℕ) (state wanted : PathState) (r : Bool) → sameb the_type Doubtful wanted ≡ false → (¬ (IsUtf8 path) → state ≡ Doubtful) → r ≡ sameb the_type state wanted → IsTrue r → IsUtf8 path
other_is_text path state wanted r other doubt e h =
    ⊎_elim
    (λ y. IsUtf8-from_is_utf8 path y)
    (λ n. let is : state ≡ Doubtful = doubt (λ u. let two : false ≡ true = sym n ∙ is_utf8-from_IsUtf8 path u in cc) in
    let wrong : false ≡ true = sym other ∙ (ap (λ s. sameb the_type s wanted) (sym is) ∙ (sym e ∙ h)) in cc)
    (cases_Bool (is_utf8 path))

-- ---- what is kept

pub KeepsStates-trans : (a b c : PathStates) → KeepsStates a b → KeepsStates b c → KeepsStates a c
KeepsStates-trans a b c h k = record { since = k.since ∙ h.since; states = λ path state e. k.states path state (h.states path state e) }

KeepsStates-state : (old new : PathStates) (path : List ℕ) (state : PathState) → IsStateOf old new path state → KeepsStates old new
KeepsStates-state old new path state h = record {
  since = h.since;
  states = λ other known e.
      ⊎_elim
      (λ y. let same : other ≡ path = (bytes_eq-Decides other path).0 y in
      let P : List ℕ → Type 0 = λ p. state_at old p ≡ Some known in
      let is : known ≡ state = h.kept known (subst P same e) in
      ap (state_at new) same ∙ h.state_is ∙ ap Some (sym is))
      (λ n. h.others other (λ same. let two : false ≡ true = sym n ∙ (bytes_eq-Decides other path).1 same in cc) ∙ e)
      (cases_Bool (bytes_eq other path));
}

-- a state that was asked for after others
pub kept_after : (first old new : PathStates) (path : List ℕ) (state : PathState) → KeepsStates first old → IsStateOf old new path state → KeepsStates first new
kept_after first old new path state h is = KeepsStates-trans first old new h (KeepsStates-state old new path state is)

-- no state was added after others
pub kept_unchanged : (first old new : PathStates) → KeepsStates first old → IsUnchanged old new → KeepsStates first new
kept_unchanged first old new h same = record { since = same.since ∙ h.since; states = λ path state e. same.states path ∙ h.states path state e }

-- ---- the way to a path

-- the states that were kept are kept, and the path before each slash up to this place has one of these
pub record OnTheWay (P : PathState → Type 0) (first now : PathStates) (path : List ℕ) (count : ℕ) : Type 0 where
  pub keeps : KeepsStates first now
  pub way : AreOnTheWay P now path count

pub kept_on_the_way : (P : PathState → Type 0) (old new : PathStates) (path : List ℕ) (count : ℕ) → KeepsStates old new → AreOnTheWay P old path count → AreOnTheWay P new path count
kept_on_the_way P old new path count keeps way = λ place l ends. let at = way place l ends in (at.0, keeps.states (take place path) at.0 at.1, at.2)

-- the first path that does not lead on stays so as more states are kept
pub first_other_kept : (old new : PathStates) (path front : List ℕ) (state : PathState) → KeepsStates old new → IsFirstOther old path front state → IsFirstOther new path front state
first_other_kept old new path front state keeps is = record {
  front_is = is.front_is;
  state_is = keeps.states front state is.state_is;
  before = kept_on_the_way LeadsOn old new path (length front) keeps is.before;
  ends = is.ends;
}

one_more : (Q : ℕ → Type 0) (count : ℕ) → ((place : ℕ) → place < count → Q place) → Q count → (place : ℕ) → place < count + 1 → Q place
one_more Q count before at place l =
    ⊎_elim
    (λ less. before place less)
    (λ same. subst Q (sym same) at)
    (let choice : (place < count) ⊎ (place ≡ count) = grind arith in choice)

pub way_begins : (P : PathState → Type 0) (states : PathStates) (path : List ℕ) → OnTheWay P states states path 0
way_begins P states path = record { keeps = record { since = refl; states = λ path state e. e }; way = λ place l. absurd (omega (arith, l)) }

-- the path before a slash has one of the states
pub way_goes_on : (P : PathState → Type 0) (first old new : PathStates) (path : List ℕ) (place : ℕ) (state : PathState) → OnTheWay P first old path place
    → IsStateOf old new (take place path) state → P state → OnTheWay P first new path (place + 1)
way_goes_on P first old new path place state h is p =
    let keeps = KeepsStates-state old new (take place path) state is in
    record {
      keeps = KeepsStates-trans first old new h.keeps keeps;
      way = one_more (λ at. EndsAt path at → (s : PathState) × (state_at new (take at path) ≡ Some s) × P s) place (kept_on_the_way P old new path place keeps h.way) (λ _. (state, is.state_is, p));
    }

-- there is no slash
pub way_passes : (P : PathState → Type 0) (first states : PathStates) (path : List ℕ) (place : ℕ) → OnTheWay P first states path place → ¬ (EndsAt path place)
    → OnTheWay P first states path (place + 1)
way_passes P first states path place h none = record {
  keeps = h.keeps;
  way = one_more (λ at. EndsAt path at → (s : PathState) × (state_at states (take at path) ≡ Some s) × P s) place h.way (λ ends. absurd (none ends));
}

-- no slash ends the path of the root
pub at_the_root : (path : List ℕ) (place : ℕ) → place ≤ 0 → MatchBool (ltb 0 place) (EndsAt path place) (¬ (EndsAt path place))
at_the_root path zero l = λ ends. let inside : 0 < 0 = ends.inside in omega arith
at_the_root path (suc n) l = absurd (omega (arith, l))

-- ---- the first path that does not lead on

pub by_links : (links : Bool) (state : PathState) → state ≡ Link → MatchBool links (LeadsOnBy links state) (¬ (LeadsOnBy links state))
by_links true state is = inr is
by_links false state is = λ same. let two : Link ≡ Directory = sym is ∙ same in cc

-- the end of a path was reached
pub way_ends : (P : PathState → Type 0) (first now : PathStates) (path : List ℕ) (place : ℕ) → length path ≤ place → OnTheWay P first now path place → AreOnTheWay P now path (length path)
way_ends P first now path place le h = λ at l. h.way at (omega (arith, l, le))

-- the path before this place, which is the first that does not lead on
pub first_end : (links : Bool) (first old new : PathStates) (path front : List ℕ) (place : ℕ) (state : PathState) → front ≡ take place path → place < length path
    → OnTheWay (LeadsOnBy links) first old path place → EndsAt path place → IsStateOf old new front state → ¬ (LeadsOnBy links state) → IsFirstEnd links new path front state
first_end links first old new path front place state same within way ends is stops =
    let size : length front ≡ place = ap length same ∙ length-take-le place path (omega (arith, within)) in
    record {
      front_is = same ∙ ap (λ (n : ℕ). take n path) (sym size);
      state_is = is.state_is;
      before = subst (λ (n : ℕ). AreOnTheWay (LeadsOnBy links) new path n) (sym size) (kept_on_the_way (LeadsOnBy links) old new path place (KeepsStates-state old new front state is) way.way);
      ends = subst (EndsAt path) (sym size) ends;
      stops = stops;
    }

-- what is found of a path: the first path on the way that does not lead on, or that all lead on
abbrev IsEndFound : Bool → PathStates → List ℕ → Option (Bor (List ℕ) × PathState) → Type 0
IsEndFound links states path found =
    MatchOption found (AreOnTheWay (LeadsOnBy links) states path (length path)) (λ end. IsFirstEnd links states path end.0.now end.1)

some_end : (links : Bool) (states : PathStates) (path : List ℕ) (found : Option (Bor (List ℕ) × PathState)) (end : Bor (List ℕ) × PathState) → found ≡ Some end → IsEndFound links states path found → IsFirstEnd links states path end.0.now end.1
some_end links states path found end is h = rw is at h

no_end : (links : Bool) (states : PathStates) (path : List ℕ) (found : Option (Bor (List ℕ) × PathState)) → found ≡ None → IsEndFound links states path found → AreOnTheWay (LeadsOnBy links) states path (length path)
no_end links states path found is h = rw is at h

module _ (states : PathStates) (path : List ℕ) (found : Option (Bor (List ℕ) × PathState)) where
  pub first_other_found : (end : Bor (List ℕ) × PathState) → found ≡ Some end → IsEndFound true states path found → IsFirstOther states path end.0.now end.1
  first_other_found end is h =
      let it = some_end true states path found end is h in
      record { front_is = it.front_is; state_is = it.state_is; before = it.before; ends = inr (it.ends, it.stops) }

  pub whole_path : (new : PathStates) (state : PathState) → found ≡ None → IsEndFound true states path found → IsStateOf states new path state → IsFirstOther new path path state
  whole_path new state none h is = record {
    front_is = sym (take_all (length path) path (omega arith));
    state_is = is.state_is;
    before = kept_on_the_way LeadsOn states new path (length path) (KeepsStates-state states new path state is) (no_end true states path found none h);
    ends = inl refl;
  }

  pub other_found : (end : Bor (List ℕ) × PathState) → found ≡ Some end → IsEndFound false states path found → HasOther states path
  other_found end is h =
      let it = some_end false states path found end is h in
      (length end.0.now, it.ends, end.1, subst (λ (p : List ℕ). state_at states p ≡ Some end.1) it.front_is it.state_is, it.stops)

  pub no_other : found ≡ None → IsEndFound false states path found → AreOnTheWay (λ state. state ≡ Directory) states path (length path)
  no_other none h = no_end false states path found none h
