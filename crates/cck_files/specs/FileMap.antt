-- what files hold: a finite map from paths to nodes, and one from paths to canonical paths
use Rattle.std.specs.Prelude.{◌≡◌, ℕ, List, [], length, Bool, Option, Some, None, Result, Ok, Err, is_some}
use Rattle.std.specs.FinMap.{FinMap, get}
use Rattle.cck_digest.specs.declared.error.FileError.{FileError}
use Rattle.cck_digest.specs.declared.error.FileError.TheVariants.{NotFound, OtherKind}
use Rattle.cck_path.specs.Path.{Path, path_cmp}
use Rattle.cck_path.specs.Timestamp.{Moment}
use Rattle.cck_path.specs.declared.metadata.FileKind.{FileKind}
use Rattle.cck_path.specs.declared.metadata.FileKind.TheVariants.{File, Folder, Other}
use Rattle.cck_path.specs.declared.metadata.Metadata.{Metadata}
use Rattle.cck_files.specs.Children.{HasChildNames}

-- the node at a path; its contents have a meaning for a regular file alone
pub record FileNode : Type 0 where
  pub kind : FileKind
  pub contents : List ℕ
  pub modified : Option Moment
  pub changed : Option Moment

-- nodes by paths
abbrev pub Nodes : Type 0
Nodes = FinMap path_cmp FileNode

-- the node at each path, and its canonical path, which leads there without links
pub record FileMap : Type 0 where
  pub nodes : Nodes
  pub canonicals : FinMap path_cmp Path

-- the contents of a regular file, and no bytes for any other kind
abbrev pub contents_of_kind : FileKind → List ℕ → List ℕ
contents_of_kind File contents = contents
contents_of_kind Folder contents = []
contents_of_kind Other contents = []

-- the metadata of a node
abbrev pub metadata_of : FileNode → Metadata
metadata_of n = record { kind = n.kind; len = length (contents_of_kind n.kind n.contents); modified = n.modified; changed = n.changed }

abbrev pub metadata_in : Option FileNode → Result Metadata FileError
metadata_in None = Err NotFound
metadata_in (Some n) = Ok (metadata_of n)

-- the metadata of the node at a path, if there is one
unfoldable pub metadata_at : FileMap → Path → Result Metadata FileError
metadata_at m p = metadata_in (get m.nodes p)

abbrev pub contents_if : FileKind → List ℕ → Result (List ℕ) FileError
contents_if File contents = Ok contents
contents_if Folder contents = Err OtherKind
contents_if Other contents = Err OtherKind

abbrev pub contents_in : Option FileNode → Result (List ℕ) FileError
contents_in None = Err NotFound
contents_in (Some n) = contents_if n.kind n.contents

-- the contents of the regular file at a path
unfoldable pub contents_at : FileMap → Path → Result (List ℕ) FileError
contents_at m p = contents_in (get m.nodes p)

abbrev pub file_if : FileNode → FileKind → Result FileNode FileError
file_if n File = Ok n
file_if n _ = Err OtherKind

abbrev pub file_in : Option FileNode → Result FileNode FileError
file_in None = Err NotFound
file_in (Some n) = file_if n n.kind

-- the regular file at a path
unfoldable pub file_at : FileMap → Path → Result FileNode FileError
file_at m p = file_in (get m.nodes p)

abbrev pub folder_if : FileKind → Result (Unit {0}) FileError
folder_if Folder = Ok tt
folder_if _ = Err OtherKind

abbrev pub folder_in : Option FileNode → Result (Unit {0}) FileError
folder_in None = Err NotFound
folder_in (Some n) = folder_if n.kind

-- the node at a path is a directory
unfoldable pub folder_at : FileMap → Path → Result (Unit {0}) FileError
folder_at m p = folder_in (get m.nodes p)

-- whether there is a node at a path
unfoldable pub exists_at : FileMap → Path → Bool
exists_at m p = is_some (get m.nodes p)

abbrev pub found_or_not : Option Path → Result Path FileError
found_or_not None = Err NotFound
found_or_not (Some q) = Ok q

-- the canonical path of a path
unfoldable pub canonical_at : FileMap → Path → Result Path FileError
canonical_at m p = found_or_not (get m.canonicals p)

-- these are the last names of a directory's direct children, each once
pub record IsListing (m : FileMap) (p : Path) (names : List (List ℕ)) : Type 0 where
  pub folder : folder_at m p ≡ Ok tt
  pub children : HasChildNames m.nodes p names
