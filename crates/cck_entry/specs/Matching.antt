-- when an included file matches
use Rattle.std.specs.Prelude.{◌≡◌, ◌⊎◌, ℕ, Bool, true, false, ◌&&◌, ◌||◌, nat_eq, List, length, Option, Some, None, Ok, Err, Result}
use Rattle.std.specs.Option.{option_map_or}
use Rattle.std.specs.Str.{bytes_eq}
use Rattle.cck_digest.specs.declared.error.FileError.{FileError}
use Rattle.cck_files.specs.FileMap.{FileMap, FileNode, file_at}
use Rattle.cck_path.specs.Path.{components}
use Rattle.cck_path.specs.Timestamp.{Moment, same_moment}
use Rattle.cck_include.specs.declared.config.PreprocessorCacheModeConfig.{PreprocessorCacheModeConfig}
use Rattle.cck_include.specs.Include.{Include}
use Rattle.cck_include.specs.Recorded.{recorded}
use Rattle.cck_include.specs.Setting.{Setting}

-- the time is known, and is this one
abbrev pub is_moment : Option Moment → Moment → Bool
is_moment None t = false
is_moment (Some a) t = same_moment a t

-- the recorded times are those of the file: both, or that of the last modification where it alone was recorded
abbrev pub times_agree : Bool → Option Moment → Option Moment → Option Moment → Option Moment → Bool
times_agree uses_changed (Some m) (Some c) modified changed = uses_changed && (is_moment modified m && is_moment changed c)
times_agree uses_changed (Some m) None modified changed = is_moment modified m
times_agree uses_changed None c modified changed = false

-- the times alone suffice, by these options
abbrev pub times_accept : PreprocessorCacheModeConfig → Include → FileNode → Bool
times_accept config i n = config.file_stat_matches && times_agree config.use_ctime_for_stat i.modified i.changed n.modified n.changed

-- there is a digest, and it is this one
abbrev pub is_digest : Option (List ℕ) → List ℕ → Bool
is_digest found digest = option_map_or (λ d. bytes_eq d digest) found false

-- there is a regular file, and this is its recorded digest
abbrev pub digest_found : Setting → List ℕ → Result FileNode FileError → Bool
digest_found s digest (Ok n) = is_digest (recorded s n) digest
digest_found s digest (Err e) = false

-- there is a regular file of the recorded size, and its times or its recorded digest show that it is the same
abbrev pub file_matches : Setting → Include → Result FileNode FileError → Bool
file_matches s i (Ok n) = nat_eq (length n.contents) i.size && (times_accept s.config i n || is_digest (recorded s n) i.digest)
file_matches s i (Err e) = false

-- the file at the path of an include is the one that was included
unfoldable pub matches : Setting → FileMap → Include → Bool
matches s files i = file_matches s i (file_at files (components i.path))

-- a result that may miss a match where there was a fault
abbrev pub MayMiss : Type 0 → Bool → Bool → Type 0
MayMiss HasFault true right = right ≡ true
MayMiss HasFault false right = (right ≡ false) ⊎ HasFault
