-- which files gcc may take for copies of the files of a text
use Rattle.std.specs.Prelude.{◌≡◌, ℕ, ℤ, ◌+◌, ◌⊎◌, Bool, true, false, List, Contains, Option, Some, None, Ok, Err, option_and_then}
use Rattle.std.specs.Fs.{IsDir, IsFile}
use Rattle.std.specs.declared.fs.attrs.FileType.{FileType}
use Rattle.cck_cache_files.specs.Snapshot.{named_path}
use Rattle.cck_cache_files.specs.declared.copies.KnownFile.{KnownFile}
use Rattle.cck_digest.specs.declared.error.FileError.TheVariants.{NotFound}
use Rattle.cck_files.specs.FileMap.{FileMap, metadata_at}
use Rattle.cck_path.specs.Bytes.{Bytes}
use Rattle.cck_path.specs.Path.{components}
use Rattle.cck_path.specs.Timestamp.{Moment}
use Rattle.cck_path.specs.declared.metadata.FileKind.{FileKind}
use Rattle.cck_path.specs.declared.metadata.FileKind.TheVariants.{File, Folder, Other}
use Rattle.cck_path.specs.declared.metadata.Metadata.{Metadata}

-- a snapshot has this at a path, or nothing
abbrev pub IsMetadataAt : FileMap → Bytes → Option Metadata → Type 0
IsMetadataAt files path None = metadata_at files (components path) ≡ Err NotFound
IsMetadataAt files path (Some metadata) = metadata_at files (components path) ≡ Ok metadata

-- a snapshot has something at a path
abbrev pub IsInSnapshot : FileMap → Bytes → Type 0
IsInSnapshot files path = (metadata : Metadata) × IsMetadataAt files path (Some metadata)

abbrev pub second_of : Option Moment → Option ℤ
second_of None = None
second_of (Some time) = Some time.seconds

abbrev pub known_if : FileKind → Metadata → Option KnownFile
known_if File metadata = Some (record { length = metadata.len; seconds = second_of metadata.modified })
known_if Folder metadata = None
known_if Other metadata = None

-- the length and the time of a regular file
abbrev pub known_of : Metadata → Option KnownFile
known_of metadata = known_if metadata.kind metadata

-- those of the regular file at a path of a snapshot, if there is one
abbrev pub IsKnownAt : FileMap → Bytes → Option KnownFile → Type 0
IsKnownAt files path known = (found : Option Metadata) × IsMetadataAt files path found × (known ≡ option_and_then known_of found)

-- the same of the file of a name
abbrev pub IsKnownOf : FileMap → Bytes → Bytes → Option KnownFile → Type 0
IsKnownOf files directory name = IsKnownAt files (named_path directory name)

-- exactly the lengths and the times of the files of these names
pub record AreKnown (files : FileMap) (directory : Bytes) (IsName : Bytes → Type 0) (known : List KnownFile) : Type 0 where
  pub each : (name : Bytes) → IsName name → (file : KnownFile) → IsKnownOf files directory name (Some file) → Contains known file
  pub only : (file : KnownFile) → Contains known file → (name : Bytes) × IsName name × IsKnownOf files directory name (Some file)

-- the absolute path of the file of such a name
abbrev pub IsPathOfName : (Bytes → Type 0) → Bytes → Bytes → Type 0
IsPathOfName IsName directory path = (name : Bytes) × IsName name × (path ≡ named_path directory name)

-- Files of these lengths may be equal for gcc, which takes the three bytes of a byte order mark from the front of a file before it compares.
abbrev pub IsLengthLike : ℕ → ℕ → Type 0
IsLengthLike a b = (a ≡ b) ⊎ ((a + 3 ≡ b) ⊎ (b + 3 ≡ a))

-- the times are of one second, or one of them is not known
abbrev pub IsSecondLike : Option ℤ → Option ℤ → Type 0
IsSecondLike None b = Unit {0}
IsSecondLike (Some a) None = Unit {0}
IsSecondLike (Some a) (Some b) = a ≡ b

-- gcc compares a file of this length and time with a known one
abbrev pub IsLike : KnownFile → ℕ → Option ℤ → Type 0
IsLike known length seconds = IsLengthLike known.length length × IsSecondLike known.seconds seconds

-- gcc may have taken what is of this type for a copy: no directory, and something else than a regular file, or one that is young or like a known one
abbrev pub MayBeTaken : FileType → Bool → Bool → Type 0
MayBeTaken type is_old is_like = ¬ (IsDir type) × (¬ (IsFile type) ⊎ ((is_old ≡ false) ⊎ (is_like ≡ true)))

-- it passed over it, as it does with a directory, or would have read it
abbrev pub IsNotTaken : FileType → Bool → Bool → Type 0
IsNotTaken type is_old is_like = IsDir type ⊎ (IsFile type × (is_old ≡ true) × (is_like ≡ false))
