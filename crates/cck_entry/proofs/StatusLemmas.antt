-- Where no status is known, included files are judged by their contents alone.
use Rattle.std.proofs.Common.{◌≡◌, Bool, ◌||◌, Option, None, ap, ◌∙◌}
use Rattle.std.specs.FinMap.{empty, get, get-empty}
use Rattle.cck_files.specs.FileMap.{FileMap}
use Rattle.cck_include.specs.Include.{Include}
use Rattle.cck_entry.specs.Matching.{matches}
use Rattle.cck_include.specs.Setting.{Setting}
use Rattle.cck_path.specs.Path.{components, path_cmp}
use Rattle.cck_path.specs.declared.metadata.Metadata.{Metadata}
use Rattle.cck_entry.specs.Statuses.{Statuses, known_accepts, matches_with}

none_accepted : (i : Include) (o : Option Metadata) (b : Bool) → o ≡ None → (known_accepts i o || b) ≡ b
none_accepted i o b none = ap (λ v. known_accepts i v || b) none

pub without_statuses : (statuses : Statuses) (s : Setting) (files : FileMap) → statuses ≡ empty → matches_with statuses s files ≡ matches s files
unfolding matches_with
without_statuses statuses s files none = λ k i.
    none_accepted i (get statuses (components i.path)) (matches s files i) (ap (λ m. get m (components i.path)) none ∙ get-empty path_cmp (components i.path)) k
