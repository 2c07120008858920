-- files that were included
use Rattle.std.specs.Prelude.{ℕ, List, map, Bool, ◌&&◌, nat_eq, Option}
use Rattle.std.specs.Cmp.Lexicographic.{pointwise}
use Rattle.std.specs.Option.{option_eq}
use Rattle.std.specs.String.{string_bytes}
use Rattle.cck_include.specs.declared.include.IncludeEntry.{IncludeEntry}
use Rattle.cck_include.specs.declared.include.IncludeRef.{IncludeRef}
use Rattle.cck_path.specs.Timestamp.{Moment, same_moment}

-- the format of entries
abbrev pub format_version : ℕ
format_version = 2

-- a file that was included, as it was then
pub record Include : Type 0 where
  pub path : List ℕ
  pub digest : List ℕ
  pub size : ℕ
  pub modified : Option Moment
  pub changed : Option Moment

-- the value of an include entry, and of several
abbrev pub include_in : IncludeEntry → Include
include_in i = record { path = i.path.items; digest = string_bytes i.digest; size = i.file_size; modified = i.mtime; changed = i.ctime }

abbrev pub includes_in : List IncludeEntry → List Include
includes_in is = map include_in is

-- the value of an include entry that is borrowed
abbrev pub include_lent : IncludeRef → Include
include_lent i = record { path = i.path.now; digest = i.digest.now; size = i.file_size; modified = i.mtime; changed = i.ctime }

-- the equality of two includes, as a Boolean function
abbrev pub same_include : Include → Include → Bool
same_include a b =
    pointwise nat_eq a.path b.path && (pointwise nat_eq a.digest b.digest && (nat_eq a.size b.size
    && (option_eq same_moment a.modified b.modified && option_eq same_moment a.changed b.changed)))
