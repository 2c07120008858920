-- what the marks of a text decide
use Rattle.std.specs.Prelude.{◌≡◌, ◌&&◌, ◌||◌, ◌==◌, ◌-◌, if◌then◌else◌, ℕ, nat_le, Bool, true, List, [], ◌∷◌, ◌++◌, length, slice_index, is_some, not, false, Option, Some, None}
use Rattle.std.specs.FinMap.{FinMap, empty, get, insert}
use Rattle.std.specs.List.{AllByRecursion}
use Rattle.std.specs.Ordering.{eq_by_cmp}
use Rattle.std.specs.Global.{Vec}
use Rattle.cck_files.specs.FileMap.{FileMap}
use Rattle.cck_include.specs.Setting.{Setting, setting_in}
use Rattle.cck_include.specs.Marks.{Mark, Marks, Name, Refusal, Malformed}
use Rattle.cck_path.specs.Path.{Path, components, joined, normal, path_cmp}
use Rattle.cck_path.specs.Timestamp.{Moment}
use Rattle.cck_include.specs.declared.config.PreprocessorCacheModeConfig.{PreprocessorCacheModeConfig}
use Rattle.jiff.specs.Types.{TimeZone}
use Rattle.cck_hasher.specs.Judgement.{Judgement, judgement_at}

-- digests by paths
abbrev pub Digests : Type 0
Digests = FinMap path_cmp (List ℕ)

-- how files are judged, which files there are, which of them the text was made from, and the directory that names are joined to
pub record Context : Type 0 where
  pub setting : Setting
  pub files : FileMap
  pub input : Path
  pub cwd : Path

-- the context of a caller's parameters
abbrev pub context_in : (List ℕ → List ℕ) → PreprocessorCacheModeConfig → Moment → TimeZone → List (Vec ℕ × Vec ℕ) → FileMap → List ℕ → List ℕ → Context
context_in hash config moment zone variables files input cwd = record {
  setting = setting_in hash config moment zone variables;
  files = files;
  input = components input;
  cwd = components cwd;
}

-- it is enclosed in `<` and `>`
unfoldable pub is_angled : List ℕ → Bool
is_angled name = nat_le 2 (length name) && (slice_index name 0 == 60) && (slice_index name (length name - 1) == 62)

-- a name by which no file is looked for: an empty one, one in angle brackets, and that of a system header where these are skipped
unfoldable pub is_passed : Bool → List ℕ → Bool → Bool
is_passed skips [] is_system = true
is_passed skips (byte ∷ name) is_system = is_angled (byte ∷ name) || (skips && is_system)

-- the path that a name means, joined to the working directory and normalised
abbrev pub path_named : Context → List ℕ → Path
path_named c name = normal (joined c.cwd (components name))

-- the path is the input, or has a digest
unfoldable pub is_known : Context → Digests → Path → Bool
is_known c held p = is_some (get held p) || eq_by_cmp path_cmp p c.input

-- a file is looked for by this name: it isn't passed over, and its path is neither the input nor has a digest
unfoldable pub is_looked_for : Context → Digests → List ℕ → Bool → Bool
is_looked_for c held name is_system = not (is_passed c.setting.config.skip_system_headers name is_system || is_known c held (path_named c name))

-- the path that is looked for by this name
abbrev pub IsLookedFor : Context → Digests → List ℕ → Bool → Path → Type 0
IsLookedFor c held name is_system p = (is_looked_for c held name is_system ≡ true) × (p ≡ path_named c name)

-- the outcome of a name: none, the digest of a path, or that the text is refused
pub data Outcome : Type 0 where
  Passes : Outcome
  Records : Path → List ℕ → Outcome
  Refuses : Outcome

abbrev pub judgement_outcome : Path → Judgement → Outcome
judgement_outcome p Judgement.Folder = Passes
judgement_outcome p (Judgement.Regular digest) = Records p digest
judgement_outcome p Judgement.Bad = Refuses

abbrev pub path_outcome : Context → Digests → Path → Outcome
path_outcome c held p = if is_known c held p then Passes else judgement_outcome p (judgement_at c.setting c.files p)

unfoldable pub outcome : Context → Digests → List ℕ → Bool → Outcome
outcome c held name is_system = if is_passed c.setting.config.skip_system_headers name is_system then Passes else path_outcome c held (path_named c name)

-- the digests after it, unless the text is refused
abbrev pub after : Digests → Outcome → Option Digests
after held Passes = Some held
after held (Records p digest) = Some (insert held p digest)
after held Refuses = None

-- the text is accepted with these digests, refused, or has a malformed marker
pub data Decided : Type 0 where
  Accepts : Digests → Decided
  IsRefused : Decided
  Errs : Decided

-- the first mark decides that is `Refusal`, `Malformed`, or a name for which the text is refused
unfoldable pub decided : Context → Option Digests → List Mark → Decided
decided c None marks = IsRefused
decided c (Some held) [] = Accepts held
decided c (Some held) (Refusal ∷ marks) = IsRefused
decided c (Some held) (Malformed ∷ marks) = Errs
decided c (Some held) (Name name is_system ∷ marks) = decided c (after held (outcome c held name is_system)) marks

-- a path that is looked for by a name of the text, where no mark before the name decides
pub record IsAskedFor (c : Context) (text : List ℕ) (p : Path) : Type 0 where
  pub before : List Mark
  pub name : List ℕ
  pub is_system : Bool
  pub following : List Mark
  pub marks : Marks true text (before ++ Name name is_system ∷ following)
  pub held : Digests
  pub undecided : decided c (Some empty) before ≡ Accepts held
  pub looked_for : IsLookedFor c held name is_system p

-- by this mark no file is looked for
abbrev pub AsksForNone : Context → Mark → Type 0
AsksForNone c (Name name is_system) = is_looked_for c empty name is_system ≡ false
AsksForNone c Refusal = Unit {0}
AsksForNone c Malformed = Unit {0}

-- no file is looked for by a name of the text
abbrev pub LooksForNone : Context → List ℕ → Type 0
LooksForNone c text = (marks : List Mark) → Marks true text marks → AllByRecursion (AsksForNone c) marks

-- the marks of the text decide this: each text has one list of marks, by the law `HasOneList` of `cck_include`
abbrev pub TextDecides : Context → List ℕ → Decided → Type 0
TextDecides c text d = (marks : List Mark) × Marks true text marks × (decided c (Some empty) marks ≡ d)
