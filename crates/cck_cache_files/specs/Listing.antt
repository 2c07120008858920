-- the files of a store
use Rattle.std.specs.Prelude.{◌≡◌, ℕ, List, All, ◌++◌, ◌↔◌, codes, IsTrue, String, string_bytes}
use Rattle.std.specs.Path.{has_no_slash}
use Rattle.std.specs.Str.Iter.{HasSubslice}
use Rattle.std.specs.declared.alloc.Global.{Global}
use Rattle.cck_cache_files.specs.Paths.{key_directory}
use Rattle.cck_cache_files.specs.declared.store_directory.Kind.{Kind}
use Rattle.cck_cache_files.specs.declared.listing.StoredFile.{StoredFile}

-- names of what is in a directory
abbrev pub AreFileNames : List (String Global) → Type 0
AreFileNames names = All (λ name. IsTrue (has_no_slash (string_bytes name))) names

-- the path of what has this name in a directory
abbrev pub path_in : List ℕ → List ℕ → List ℕ
path_in directory name = directory ++ codes "/" ++ name

-- a file of this name in a directory, which is new exactly if its name says so
pub record IsFileNamed (directory name : List ℕ) (file : StoredFile) : Type 0 where
  pub path_is : string_bytes file.path ≡ path_in directory name
  pub is_new : IsTrue file.is_new ↔ HasSubslice name (codes ".new")

-- a file in a directory
abbrev pub IsFileIn : List ℕ → StoredFile → Type 0
IsFileIn directory file = (name : List ℕ) × IsTrue (has_no_slash name) × IsFileNamed directory name file

-- a file in a directory of this one
abbrev pub IsFileBelow : List ℕ → StoredFile → Type 0
IsFileBelow directory file = (name : List ℕ) × IsTrue (has_no_slash name) × IsFileIn (path_in directory name) file

-- a file beside those of this key, in the directory of one of the kinds
abbrev pub IsInShare : List ℕ → List ℕ → StoredFile → Type 0
IsInShare directory key file = (kind : Kind) × IsFileIn (key_directory directory kind key) file

-- files of a directory were added after those that were there
abbrev pub AddsFilesIn : List ℕ → List StoredFile → List StoredFile → Type 0
AddsFilesIn directory old new = (added : List StoredFile) × (new ≡ old ++ added) × All (IsFileIn directory) added
