-- The paths at which headers are looked for, and which a text does not name.
use Rattle.std.proofs.Common.{◌≡◌, ◌∙◌, ◌<◌, ◌+◌, ◌⊎◌, inl, inr, ℕ, Bool, true, false, List, [], ◌∷◌, Some, IsTrue, get_or, length, map, refl, sym, ap, subst, arith}
use Rattle.std.specs.BTreeSet.{BTreeSet}
use Rattle.std.specs.Global.{Vec}
use Rattle.std.specs.Bool.{MatchBool}
use Rattle.std.specs.Prelude.{Contains}
use Rattle.std.proofs.lemmas.List.{get_or_default, length-map}
use Rattle.cck_cache_files.specs.Unnamed.{AreAllPassed, AreFronts, AreUnreadBySpelling, AreUnreadTests, AreUnreadWhere, HasSpelling, IsPassed, IsSpelling, IsThere, IsUnread, IsUnreadTest, LeadsNotTo, LeadsTo, normal_path}
use Rattle.cck_cache_files.specs.TestsAt.{GainsTest}
use Rattle.cck_cache_files.proofs.SetLemmas.{IsAmong, more_names, next_name}
use Rattle.cck_cache_rules.specs.PathTest.{Test, Absent, Directory, File, Searched, Plain, Real}
use Rattle.cck_cache_text.specs.Left.{IsLeftOn}
use Rattle.cck_cache_text.specs.Sets.{Adds, has_key}
use Rattle.cck_cache_text.proofs.SetLemmas.{has_key_at, key_at}
use Rattle.cck_cache_files.specs.PathStates.{HasOther, KeepsStates}
use Rattle.cck_cache_files.specs.declared.path_states.PathState.TheVariants as state
use Rattle.cck_cache_files.specs.declared.path_states.PathStates.{PathStates}
use Rattle.cck_cache_files.proofs.StateLemmas.{first_other_kept, kept_on_the_way}
use Rattle.cck_files.specs.FileMap.{FileMap}
use Rattle.cck_path.specs.Bytes.{Bytes, lists_of}
use Rattle.cck_path.specs.Text.{join_path}

-- ---- what is kept as more states are

module _ (old new : PathStates) (keeps : KeepsStates old new) (path : Bytes) where
  unread_test_kept : (test : Test) → IsUnreadTest old path test → IsUnreadTest new path test
  unread_test_kept (Absent front) is = first_other_kept old new path front state.Absent keeps is
  unread_test_kept (Directory directory) (same, is) = (same, first_other_kept old new path path state.Directory keeps is)
  unread_test_kept (File front) (short, is) = (short, first_other_kept old new path front state.File keeps is)
  unread_test_kept (Searched file place) none = absurd none
  unread_test_kept (Plain file) none = absurd none
  unread_test_kept (Real file real) none = absurd none

  pub unread_kept : IsUnread old path → IsUnread new path
  unread_kept (test, is) = (test, unread_test_kept test is)

  pub there_kept : IsThere old path → IsThere new path
  there_kept (inl is) = inl (first_other_kept old new path path state.File keeps is)
  there_kept (inr is) = inr (first_other_kept old new path path state.Link keeps is)

  other_kept : HasOther old path → HasOther new path
  other_kept (place, ends, s, at, other) = (place, ends, s, keeps.states _ s at, other)

  leads_kept : (files : FileMap) (whole : Bytes) → LeadsTo old files path whole → LeadsTo new files path whole
  leads_kept files whole (there, inl same) = (there, inl same)
  leads_kept files whole (there, inr way) = (there, inr (kept_on_the_way (λ s. s ≡ state.Directory) old new path (length path) keeps way))

  leads_not_kept : (files : FileMap) (whole : Bytes) → LeadsNotTo old files path whole → LeadsNotTo new files path whole
  leads_not_kept files whole (inl none) = inl none
  leads_not_kept files whole (inr (apart, other)) = inr (apart, other_kept other)

  pub passed_kept : (files : FileMap) → IsPassed old files path → IsPassed new files path
  passed_kept files (inl unread) = inl (unread_kept unread)
  passed_kept files (inr (there, leads_not)) = inr (there_kept there, leads_not_kept files (normal_path path) leads_not)

  pub spelling_kept : (files : FileMap) → IsSpelling old files path → IsSpelling new files path
  spelling_kept files (there, leads) = (there_kept there, leads_kept files (normal_path path) leads)

-- ---- one path

-- a path at which something is, by its path without `.` and `..`
pub spelling_there : (states : PathStates) (files : FileMap) (path whole : Bytes) → whole ≡ normal_path path → IsThere states path → LeadsTo states files path whole → IsSpelling states files path
spelling_there states files path whole is there leads = (there, subst (λ (w : Bytes). LeadsTo states files path w) is leads)

pub passed_there : (states : PathStates) (files : FileMap) (path whole : Bytes) → whole ≡ normal_path path → IsThere states path → LeadsNotTo states files path whole → IsPassed states files path
passed_there states files path whole is there leads = inr (there, subst (λ (w : Bytes). LeadsNotTo states files path w) is leads)

-- ---- one more name

pub no_fronts : (states : PathStates) (files : FileMap) (directory : Bytes) (keys : List (Vec ℕ)) (IsFront : Bytes → Type 0) → ((front : Bytes) → IsFront front → ⊥) → AreFronts states files directory (IsAmong keys 0) IsFront
no_fronts states files directory keys IsFront none = record {
  each = λ name among. absurd (omega (arith, among.1));
  only = λ front is. absurd (none front is);
}

module _ (old new : PathStates) (files : FileMap) (directory : Bytes) (keys : List (Vec ℕ)) (n : ℕ) (keeps : KeepsStates old new) (path : Bytes) (is : path ≡ join_path directory (get_or (map (λ k. k.items) keys) n [])) where
  at_name : (name : Bytes) → get_or (map (λ k. k.items) keys) n [] ≡ name → path ≡ join_path directory name
  at_name name at = is ∙ ap (λ (m : Bytes). join_path directory m) at

  -- the next name is passed
  pub next_passed : (IsFront : Bytes → Type 0) → IsPassed new files path → AreFronts old files directory (IsAmong keys n) IsFront → AreFronts new files directory (IsAmong keys (n + 1)) IsFront
  next_passed IsFront passed fronts = record {
    each = λ name among. elim (next_name keys n name among) [
      | inl before ↦ (elim (fronts.each name before) [
        | inl a ↦ inl (passed_kept old new keeps (join_path directory name) files a)
        | inr b ↦ inr (spelling_kept old new keeps (join_path directory name) files b.0, b.1)
      ])
      | inr at ↦ inl (subst (λ (p : Bytes). IsPassed new files p) (at_name name at) passed)
    ];
    only = λ front among. let at = fronts.only front among in (at.0, more_names keys n at.0 at.1, spelling_kept old new keeps (join_path directory at.0) files at.2, at.3);
  }

  -- the next name is another spelling
  pub next_spelling : (before after : BTreeSet (Vec ℕ)) → IsSpelling new files path → Adds (IsLeftOn path) before after → AreFronts old files directory (IsAmong keys n) (λ front. IsTrue (has_key before front))
      → AreFronts new files directory (IsAmong keys (n + 1)) (λ front. IsTrue (has_key after front))
  next_spelling before after spelling adds fronts = record {
    each = λ name among. elim (next_name keys n name among) [
      | inl first ↦ (elim (fronts.each name first) [
        | inl a ↦ inl (passed_kept old new keeps (join_path directory name) files a)
        | inr b ↦ inr (spelling_kept old new keeps (join_path directory name) files b.0, λ front left. (adds front).1 (inr (b.1 front left)))
      ])
      | inr at ↦ inr (
        subst (λ (p : Bytes). IsSpelling new files p) (at_name name at) spelling,
        λ front left. (adds front).1 (inl (subst (λ (p : Bytes). IsLeftOn p front) (sym (at_name name at)) left)),
      )
    ];
    only = λ front among. elim ((adds front).0 among) [
      | inl left ↦ (
        get_or (map (λ k. k.items) keys) n [],
        (n, omega arith, refl),
        subst (λ (p : Bytes). IsSpelling new files p) is spelling,
        subst (λ (p : Bytes). IsLeftOn p front) is left,
      )
      | inr known ↦ (let at = fronts.only front known in (at.0, more_names keys n at.0 at.1, spelling_kept old new keeps (join_path directory at.0) files at.2, at.3))
    ];
  }

  -- whether one of the names so far is another spelling, if the next one is passed
  pub next_is_passed : (is_any : Bool) → IsPassed new files path → MatchBool is_any (HasSpelling old files directory (IsAmong keys n)) (AreAllPassed old files directory (IsAmong keys n))
      → MatchBool is_any (HasSpelling new files directory (IsAmong keys (n + 1))) (AreAllPassed new files directory (IsAmong keys (n + 1)))
  next_is_passed true passed has = (has.0, more_names keys n has.0 has.1, spelling_kept old new keeps (join_path directory has.0) files has.2)
  next_is_passed false passed all = λ name among. elim (next_name keys n name among) [
    | inl before ↦ passed_kept old new keeps (join_path directory name) files (all name before)
    | inr at ↦ subst (λ (p : Bytes). IsPassed new files p) (at_name name at) passed
  ]

  -- the next name is one
  pub next_is_spelling : IsSpelling new files path → HasSpelling new files directory (IsAmong keys (n + 1))
  next_is_spelling spelling = (get_or (map (λ k. k.items) keys) n [], (n, omega arith, refl), subst (λ (p : Bytes). IsSpelling new files p) is spelling)

module _ (old new : PathStates) (directory : Bytes) (keys : List (Vec ℕ)) (n : ℕ) (keeps : KeepsStates old new) (path : Bytes) (is : path ≡ join_path directory (get_or (map (λ k. k.items) keys) n [])) where
  next_is : (name : Bytes) → get_or (map (λ k. k.items) keys) n [] ≡ name → path ≡ join_path directory name
  next_is name at = is ∙ ap (λ (m : Bytes). join_path directory m) at

  -- a file or a link is at the next name
  pub next_there : (tests : List Test) → IsThere new path → AreUnreadTests old directory (IsAmong keys n) tests → AreUnreadTests new directory (IsAmong keys (n + 1)) tests
  next_there tests there are = record {
    each = λ name among. elim (next_name keys n name among) [
      | inl before ↦ (elim (are.each name before) [
        | inl a ↦ inl (there_kept old new keeps (join_path directory name) a)
        | inr b ↦ inr (b.0, b.1, unread_test_kept old new keeps (join_path directory name) b.0 b.2)
      ])
      | inr at ↦ inl (subst (λ (p : Bytes). IsThere new p) (next_is name at) there)
    ];
    only = λ test among. let at = are.only test among in (at.0, more_names keys n at.0 at.1, unread_test_kept old new keeps (join_path directory at.0) test at.2);
  }

  -- gcc reads nothing at the next name
  pub next_unread : (test : Test) (before after : List Test) → IsUnreadTest new path test → GainsTest before test after → AreUnreadTests old directory (IsAmong keys n) before → AreUnreadTests new directory (IsAmong keys (n + 1)) after
  next_unread test before after unread gains are = record {
    each = λ name among. elim (next_name keys n name among) [
      | inl first ↦ (elim (are.each name first) [
        | inl a ↦ inl (there_kept old new keeps (join_path directory name) a)
        | inr b ↦ inr (b.0, gains.kept b.0 b.1, unread_test_kept old new keeps (join_path directory name) b.0 b.2)
      ])
      | inr at ↦ inr (test, gains.gained, subst (λ (p : Bytes). IsUnreadTest new p test) (next_is name at) unread)
    ];
    only = λ t among. elim (gains.only t among) [
      | inl old_one ↦ (let at = are.only t old_one in (at.0, more_names keys n at.0 at.1, unread_test_kept old new keeps (join_path directory at.0) t at.2))
      | inr same ↦ (
        get_or (map (λ k. k.items) keys) n [],
        (n, omega arith, refl),
        subst (λ (t : Test). IsUnreadTest new (join_path directory (get_or (map (λ (k : Vec ℕ). k.items) keys) n [])) t) (sym same) (subst (λ (p : Bytes). IsUnreadTest new p test) is unread),
      )
    ];
  }

-- names and directories that are others of the same
pub fronts_same : (states : PathStates) (files : FileMap) (directory : Bytes) (P Q IsFront IsOther : Bytes → Type 0) → ((name : Bytes) → P name → Q name) → ((name : Bytes) → Q name → P name)
    → ((front : Bytes) → IsFront front → IsOther front) → ((front : Bytes) → IsOther front → IsFront front) → AreFronts states files directory P IsFront → AreFronts states files directory Q IsOther
fronts_same states files directory P Q IsFront IsOther there back to from fronts = record {
  each = λ name is. elim (fronts.each name (back name is)) [
    | inl a ↦ inl a
    | inr b ↦ inr (b.0, λ front left. to front (b.1 front left))
  ];
  only = λ front is. let at = fronts.only front (from front is) in (at.0, there at.0 at.1, at.2, at.3);
}

-- ---- what holds of names that are others of the same

module _ (states : PathStates) (directory : Bytes) (P Q : Bytes → Type 0) (there : (name : Bytes) → P name → Q name) (back : (name : Bytes) → Q name → P name) where
  pub unread_same : (tests : List Test) → AreUnreadTests states directory P tests → AreUnreadTests states directory Q tests
  unread_same tests are = record {
    each = λ name is. are.each name (back name is);
    only = λ test among. let at = are.only test among in (at.0, there at.0 at.1, at.2);
  }

  pub any_same : (files : FileMap) (is_any : Bool) → MatchBool is_any (HasSpelling states files directory P) (AreAllPassed states files directory P) → MatchBool is_any (HasSpelling states files directory Q) (AreAllPassed states files directory Q)
  any_same files true has = (has.0, there has.0 has.1, has.2)
  any_same files false all = λ name is. all name (back name is)

  pub by_spelling_same : (files : FileMap) (tests : List Test) → AreUnreadBySpelling states files directory P tests → AreUnreadBySpelling states files directory Q tests
  by_spelling_same files tests (inl a) = inl (any_same files true a.0, unread_same tests a.1)
  by_spelling_same files tests (inr b) = inr (any_same files false b.0, b.1)

-- ---- the tests of names

pub no_tests : (states : PathStates) (directory : Bytes) (keys : List (Vec ℕ)) → AreUnreadTests states directory (IsAmong keys 0) []
no_tests states directory keys = record {
  each = λ name among. absurd (omega (arith, among.1));
  only = λ test at. absurd (omega (arith, at.1));
}

pub no_spelling : (states : PathStates) (files : FileMap) (directory : Bytes) (keys : List (Vec ℕ)) → AreAllPassed states files directory (IsAmong keys 0)
no_spelling states files directory keys name among = absurd (omega (arith, among.1))

module _ (old new : PathStates) (keeps : KeepsStates old new) (files : FileMap) (directory : Bytes) (P : Bytes → Type 0) where
  pub fronts_kept : (IsFront : Bytes → Type 0) → AreFronts old files directory P IsFront → AreFronts new files directory P IsFront
  fronts_kept IsFront fronts = record {
    each = λ name is. elim (fronts.each name is) [
      | inl a ↦ inl (passed_kept old new keeps (join_path directory name) files a)
      | inr b ↦ inr (spelling_kept old new keeps (join_path directory name) files b.0, b.1)
    ];
    only = λ front is. let at = fronts.only front is in (at.0, at.1, spelling_kept old new keeps (join_path directory at.0) files at.2, at.3);
  }

  -- the tests where a name is another spelling, and else none
  pub by_spelling : (is_any : Bool) (tests : List Test) → MatchBool is_any (HasSpelling old files directory P) (AreAllPassed old files directory P) → AreUnreadWhere is_any new directory P (Some tests) → AreUnreadBySpelling new files directory P tests
  by_spelling true tests has are = inl ((has.0, has.1, spelling_kept old new keeps (join_path directory has.0) files has.2), are)
  by_spelling false tests all none = inr (λ name is. passed_kept old new keeps (join_path directory name) files (all name is), none)

-- the keys of a set
pub key_listed : (keys : BTreeSet (Vec ℕ)) (bytes : Bytes) → IsTrue (has_key keys bytes) → Contains (lists_of keys.keys) bytes
key_listed keys bytes has =
    let at = key_at keys.keys bytes has in
    let within : at.0 < length (lists_of keys.keys) = omega (arith, at.1, length-map keys.keys (λ k. k.items)) in
    (at.0, within, get_or_default (lists_of keys.keys) at.0 bytes [] within ∙ at.2)

pub listed_key : (keys : BTreeSet (Vec ℕ)) (bytes : Bytes) → Contains (lists_of keys.keys) bytes → IsTrue (has_key keys bytes)
listed_key keys bytes at =
    let within : at.0 < length keys.keys = omega (arith, at.1, length-map keys.keys (λ k. k.items)) in
    subst (λ (q : Bytes). IsTrue (has_key keys q)) (get_or_default (lists_of keys.keys) at.0 [] bytes at.1 ∙ at.2) (has_key_at keys.keys at.0 within)
