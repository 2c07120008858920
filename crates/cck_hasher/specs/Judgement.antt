-- how a walk judges a path
use Rattle.std.specs.Prelude.{◌≡◌, ◌⊎◌, ◌||◌, if◌then◌else◌, not, ℕ, Bool, false, List, Option, Some, None, Result, Ok, Err, alloc_error, string_bytes}
use Rattle.std.specs.FinMap.{get}
use Rattle.std.specs.declared.alloc.AllocError.{AllocError}
use Rattle.cck_files.specs.FileMap.{FileMap, FileNode}
use Rattle.cck_include.specs.Gathered.{is_before}
use Rattle.cck_include.specs.Recorded.{recorded}
use Rattle.cck_include.specs.Setting.{Setting}
use Rattle.cck_path.specs.Path.{Path}
use Rattle.cck_path.specs.Timestamp.{Moment}
use Rattle.cck_path.specs.declared.metadata.FileKind.{FileKind}
use Rattle.cck_path.specs.declared.metadata.FileKind.TheVariants as kind
use Rattle.cck_digest.specs.declared.entry_error.Error.{Error}
use Rattle.cck_digest.specs.declared.entry_error.Error.TheVariants as error
use Rattle.cck_hasher.specs.declared.judge.Judged.{Judged}
use Rattle.cck_hasher.specs.declared.judge.Judged.TheVariants as judged

-- a directory, a regular file with its recorded digest, or what can't be recorded
pub data Judgement : Type 0 where
  Folder : Judgement
  Regular : List ℕ → Judgement
  Bad : Judgement

-- the time is known, and is not before the call time
abbrev pub is_late : Moment → Option Moment → Bool
is_late moment None = false
is_late moment (Some time) = not (is_before time moment)

abbrev pub digest_judgement : Option (List ℕ) → Judgement
digest_judgement None = Bad
digest_judgement (Some digest) = Regular digest

-- a regular file is recorded if none of its times is late and it has a recorded digest
abbrev pub file_judgement : Setting → FileNode → Judgement
file_judgement s n = if is_late s.moment n.modified || is_late s.moment n.changed then Bad else digest_judgement (recorded s n)

abbrev pub kind_judgement : Setting → FileNode → FileKind → Judgement
kind_judgement s n kind.File = file_judgement s n
kind_judgement s n kind.Folder = Folder
kind_judgement s n kind.Other = Bad

abbrev pub node_judgement : Setting → Option FileNode → Judgement
node_judgement s None = Bad
node_judgement s (Some n) = kind_judgement s n n.kind

-- how a path is judged in these files
unfoldable pub judgement_at : Setting → FileMap → Path → Judgement
judgement_at s files p = node_judgement s (get files.nodes p)

-- the path was judged exactly, or a fault came and it counts as bad
abbrev pub IsJudged : Judgement → Type 0 → Result Judged AllocError → Type 0
IsJudged judgement HasFault (Ok judged.Folder) = judgement ≡ Folder
IsJudged judgement HasFault (Ok (judged.Regular digest)) = judgement ≡ Regular (string_bytes digest)
IsJudged judgement HasFault (Ok judged.Bad) = (judgement ≡ Bad) ⊎ HasFault
IsJudged judgement HasFault (Err e) = Unit {0}

-- a file that can't be read is bad, unless the cause is lack of memory
abbrev pub judged_unread : Error → Result Judged AllocError
judged_unread error.Memory = Err alloc_error
judged_unread (error.Io e) = Ok judged.Bad
judged_unread error.Deserialization = Ok judged.Bad
judged_unread (error.UnknownFormat byte) = Ok judged.Bad
