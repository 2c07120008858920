-- tests of what is at paths
use Rattle.std.specs.Prelude.{◌≡◌, ◌⊎◌, Bool, true, false, List, Contains, Option, Some, None, codes, nat_eq}
use Rattle.std.specs.List.{ends_with}
use Rattle.cck_cache_rules.specs.PathTest.{Test, Absent, File, Directory, Searched, Plain, Real}
use Rattle.cck_cache_files.specs.PathStates.{IsFirstOther, LeadsOn}
use Rattle.cck_cache_files.specs.declared.path_states.PathState.{PathState}
use Rattle.cck_cache_files.specs.declared.path_states.PathState.TheVariants as state
use Rattle.cck_cache_files.specs.declared.path_states.PathStates.{PathStates}
use Rattle.cck_path.specs.Bytes.{Bytes}
use Rattle.cck_path.specs.Text.{join_path}

abbrev pub is_precompiled : Bytes → Bool
is_precompiled path = ends_with nat_eq path (codes ".gch")

-- A test of what is at a path, by the first place on the way to it that does not lead on: there is nothing, or a regular file. That is at the path
-- itself, and no precompiled header; or the path is below it, and there is nothing at the path.
abbrev pub IsTestAt : PathStates → Bytes → Test → Type 0
IsTestAt states path (Absent front) = IsFirstOther states path front state.Absent
IsTestAt states path (File front) = IsFirstOther states path front state.File × (front ≡ path → is_precompiled path ≡ false)
IsTestAt states path (Directory directory) = ⊥
IsTestAt states path (Searched directory place) = ⊥
IsTestAt states path (Plain file) = ⊥
IsTestAt states path (Real file real) = ⊥

-- it is not known what a compiler finds at a path with this state on the way to it: the path leads on, is in doubt, or is that of a precompiled header
abbrev pub IsInDoubt : Bytes → Bytes → PathState → Type 0
IsInDoubt path front s = LeadsOn s ⊎ ((s ≡ state.Doubtful) ⊎ ((s ≡ state.File) × (front ≡ path) × (is_precompiled path ≡ true)))

abbrev pub IsDoubtfulAt : PathStates → Bytes → Type 0
IsDoubtfulAt states path = (front : Bytes) × (s : PathState) × IsFirstOther states path front s × IsInDoubt path front s

-- the test of what is at a path, if that is known
abbrev pub IsTestOrDoubt : PathStates → Bytes → Option Test → Type 0
IsTestOrDoubt states path None = IsDoubtfulAt states path
IsTestOrDoubt states path (Some test) = IsTestAt states path test

-- a list has the tests that it had, this one, and no other
pub record GainsTest (old : List Test) (test : Test) (new : List Test) : Type 0 where
  pub kept : (t : Test) → Contains old t → Contains new t
  pub gained : Contains new test
  pub only : (t : Test) → Contains new t → Contains old t ⊎ (t ≡ test)

-- one of these tests says what is at the path of each of these names, which are relative to the directory; and each says it of one
pub record AreTestsAt (states : PathStates) (directory : Bytes) (IsName : Bytes → Type 0) (tests : List Test) : Type 0 where
  pub each : (name : Bytes) → IsName name → (test : Test) × Contains tests test × IsTestAt states (join_path directory name) test
  pub only : (test : Test) → Contains tests test → (name : Bytes) × IsName name × IsTestAt states (join_path directory name) test

-- these are the tests for these names; or one of them is in doubt
abbrev pub AreTestsFor : PathStates → Bytes → (Bytes → Type 0) → Option (List Test) → Type 0
AreTestsFor states directory IsName None = (name : Bytes) × IsName name × IsDoubtfulAt states (join_path directory name)
AreTestsFor states directory IsName (Some tests) = AreTestsAt states directory IsName tests
