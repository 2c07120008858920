-- what a look-up has found of files
use Rattle.std.specs.Prelude.{◌≡◌, ℕ, ◌<◌, List, length, All, Some, Ok, IfSome, IsOkAnd, slice_index_or}
use Rattle.std.specs.FinMap.{FinMap, get}
use Rattle.std.specs.Option.{option_map}
use Rattle.std.specs.String.{string_bytes}
use Rattle.cck_files.specs.FileMap.{FileMap, file_at, metadata_at}
use Rattle.cck_path.specs.Path.{Path, components, path_cmp}
use Rattle.cck_include.specs.Recorded.{recorded}
use Rattle.cck_include.specs.Setting.{Setting}
use Rattle.cck_entry.specs.declared.known.KnownFiles.{KnownFiles}
use Rattle.cck_entry.specs.declared.known.KnownFile.{KnownFile}

-- the path of a file
abbrev pub known_path : KnownFile → Path
known_path k = components k.path.items

-- the metadata of a file is right, and so is its recorded digest, if that is known: it is this one, or there is none
pub record IsRight (s : Setting) (files : FileMap) (k : KnownFile) : Type 0 where
  pub metadata : metadata_at files (known_path k) ≡ Ok k.metadata
  pub digest : IfSome k.digest (λ d. IsOkAnd (file_at files (known_path k)) (λ n. option_map string_bytes d ≡ recorded s n))

-- there is a file at place i, with this path
pub record IsKnownAt (p : Path) (ks : List KnownFile) (i : ℕ) : Type 0 where
  pub in_range : i < length ks
  pub has_path : (d : KnownFile) → known_path (slice_index_or ks i d) ≡ p

-- the place of each file is found by its path
abbrev pub AreFound : List KnownFile → FinMap path_cmp ℕ → Type 0
AreFound ks places = (p : Path) (i : ℕ) → IsKnownAt p ks i → get places p ≡ Some i

-- all that is known is right, and found by its path
abbrev pub AreKnown : Setting → FileMap → KnownFiles → Type 0
AreKnown s files known = All (IsRight s files) known.files.items × AreFound known.files.items known.places
