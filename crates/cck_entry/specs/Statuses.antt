-- when an included file is accepted by its status alone, without its contents
use Rattle.std.specs.Prelude.{Bool, true, false, ◌&&◌, ◌||◌, nat_eq, length, Option, Some, None}
use Rattle.std.specs.FinMap.{FinMap, get}
use Rattle.std.specs.Option.{is_some}
use Rattle.cck_files.specs.FileMap.{FileMap}
use Rattle.cck_include.specs.Include.{Include}
use Rattle.cck_entry.specs.Matching.{matches, times_agree}
use Rattle.cck_include.specs.Setting.{Setting}
use Rattle.cck_path.specs.Path.{components, path_cmp}
use Rattle.cck_path.specs.declared.metadata.FileKind.{FileKind}
use Rattle.cck_path.specs.declared.metadata.FileKind.TheVariants.{File, Folder, Other}
use Rattle.cck_path.specs.declared.metadata.Metadata.{Metadata}

-- a regular file
abbrev pub is_regular : FileKind → Bool
is_regular File = true
is_regular Folder = false
is_regular Other = false

-- The status is that of a regular file of the recorded size and of both recorded times, and the recorded digest has 64 characters: it is that of
-- the contents, with no time part.
abbrev pub status_accepts : Include → Metadata → Bool
status_accepts i m =
    is_regular m.kind && (nat_eq m.len i.size && (is_some i.changed && (times_agree true i.modified i.changed m.modified m.changed && nat_eq (length i.digest) 64)))

-- statuses by paths
abbrev pub Statuses : Type 0
Statuses = FinMap path_cmp Metadata

-- a status is known, and accepted
abbrev pub known_accepts : Include → Option Metadata → Bool
known_accepts i None = false
known_accepts i (Some m) = status_accepts i m

-- the status that is known of an include's file is accepted, or the file is the one that was included
unfoldable pub matches_with : Statuses → Setting → FileMap → Include → Bool
matches_with statuses s files i = known_accepts i (get statuses (components i.path)) || matches s files i
