-- included files of a stored result, and how each differs from what was recorded of it
use Rattle.std.specs.Prelude.{◌≡◌, ℕ, ◌+◌, ◌<◌, ◌^◌, List, map, Option, IfSome, is_none}
use Rattle.std.specs.List.{AllByRecursion}
use Rattle.cck_entry.specs.Results.{KeyResult}
use Rattle.cck_files.specs.FileMap.{FileMap, contents_at}
use Rattle.cck_include.specs.Include.{Include}
use Rattle.cck_entry.specs.Matching.{matches}
use Rattle.cck_include.specs.Setting.{Setting}
use Rattle.cck_path.specs.Bytes.{Bytes}
use Rattle.cck_path.specs.Path.{components}
use Rattle.cck_explain.specs.Difference.{IsDifference}
use Rattle.cck_explain.specs.declared.difference.Difference.{Difference}

-- no call on these files fails, and the count of faults could still rise
pub record IsCalm {F : Type 0} (faults : F → ℕ) (is_quiet : F → Type 0) (files : F) : Type 0 where
  pub quiet : is_quiet files
  pub room : faults files + 1 < 2 ^ 64

-- an included file, and its difference, if it has one
abbrev pub Judged : Type 0
Judged = Include × Option Difference

-- a key, and its included files
abbrev pub JudgedResult : Type 0
JudgedResult = Bytes × List Judged

abbrev pub result_judged : JudgedResult → KeyResult
result_judged r = (r.0, map (λ j. j.0) (r.1))

module _ (s : Setting) (files : FileMap) where
  -- There is a difference exactly if the file does not match, and it is the file's. No call on the files failed.
  pub record IsJudged (j : Judged) : Type 0 where
    pub matching : is_none (j.1) ≡ matches s files (j.0)
    pub difference : IfSome (j.1) (IsDifference s.hash ⊥ (contents_at files (components (j.0).path)) (j.0).digest)

  -- these included files are judged, in order
  pub record AreJudged (includes : List Include) (judged : List Judged) : Type 0 where
    pub are : map (λ j. j.0) judged ≡ includes
    pub each : AllByRecursion IsJudged judged

  -- the included files of these results are judged, in order
  pub record AreJudgedResults (results : List KeyResult) (judged : List JudgedResult) : Type 0 where
    pub are : map result_judged judged ≡ results
    pub each : AllByRecursion (λ r. AllByRecursion IsJudged (r.1)) judged
