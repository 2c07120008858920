-- the digests of the programs that a compilation runs
use Rattle.std.specs.Prelude.{◌≡◌, ◌==◌, ℕ, ℤ, List, [], ◌∷◌, ◌++◌, Bool, ◌&&◌, IsTrue, length, codes}
use Rattle.std.specs.Char.{is_ascii_hexdigit}
use Rattle.std.specs.Fmt.{decimal, signed_decimal}
use Rattle.std.specs.List.{AllZip, list_all, slice_split}
use Rattle.cck_digest.specs.Digest.{digest_text}
use Rattle.cck_digest.specs.Stream.{concatenation}
use Rattle.cck_cache_files.specs.declared.compiler.Part.{Part}
use Rattle.cck_cache_files.specs.declared.compiler.Part.TheVariants.{Contents, Status}

-- whether a text is 64 hexadecimal digits
abbrev pub is_hex_digest : List ℕ → Bool
is_hex_digest text = length text == 64 && list_all is_ascii_hexdigit text

-- whether these are the contents of the file that keeps this digest under this name
abbrev pub IsDigestFile : List ℕ → List ℕ → List ℕ → Type 0
IsDigestFile name digest contents = IsTrue (is_hex_digest digest) × (contents ≡ (digest ++ codes " ") ++ name)

-- whether these are those of no digest under this name
abbrev pub HasNoDigest : List ℕ → List ℕ → Type 0
HasNoDigest name contents = (digest : List ℕ) → IsDigestFile name digest contents → ⊥

-- what the system says of a file: its device, inode and size, and when its contents and its status last changed
pub record FileStatus : Type 0 where
  pub device : ℕ
  pub inode : ℕ
  pub size : ℕ
  pub seconds : ℤ
  pub nanoseconds : ℤ
  pub changed : ℤ
  pub changed_nanoseconds : ℤ

-- a device, an inode and a size
abbrev pub place_text : ℕ → ℕ → ℕ → List ℕ
place_text device inode size = decimal device ++ codes " " ++ decimal inode ++ codes " " ++ decimal size

-- seconds and nanoseconds
abbrev pub instant_text : ℤ → ℤ → List ℕ
instant_text seconds nanoseconds = signed_decimal seconds ++ codes "." ++ signed_decimal nanoseconds

-- the line of a program and of what the system says of it
abbrev pub status_line : List ℕ → FileStatus → List ℕ
status_line path s = concatenation (
    path ∷ codes " " ∷ place_text s.device s.inode s.size ∷ codes " " ∷ instant_text s.seconds s.nanoseconds
    ∷ codes " " ∷ instant_text s.changed s.changed_nanoseconds ∷ (10 ∷ []) ∷ [])

-- the same, with some numbers
abbrev pub IsStatusLine : List ℕ → List ℕ → Type 0
IsStatusLine path line = (status : FileStatus) × (line ≡ status_line path status)

-- the line of a program and of the digest of its contents
abbrev pub contents_line : (List ℕ → List ℕ) → List ℕ → List ℕ → List ℕ
contents_line hash path contents = concatenation (path ∷ codes " " ∷ digest_text hash contents ∷ (10 ∷ []) ∷ [])

-- the same, with some contents
abbrev pub IsContentsLine : (List ℕ → List ℕ) → List ℕ → List ℕ → Type 0
IsContentsLine hash path line = (contents : List ℕ) × (line ≡ contents_line hash path contents)

-- a line of a program, by what the digest depends on
abbrev pub IsProgramLine : (List ℕ → List ℕ) → Part → List ℕ → List ℕ → Type 0
IsProgramLine hash Status path line = IsStatusLine path line
IsProgramLine hash Contents path line = IsContentsLine hash path line

-- the digest of a line for each of the programs, whose paths are separated by colons
abbrev pub IsProgramsDigest : (List ℕ → List ℕ) → Part → List ℕ → List ℕ → Type 0
IsProgramsDigest hash part paths text =
    (lines : List (List ℕ)) × AllZip (IsProgramLine hash part) (slice_split (λ c. c == 58) paths) lines
    × (text ≡ digest_text hash (concatenation lines))

-- the digest of what the system says of each program
abbrev pub IsStatusDigest : (List ℕ → List ℕ) → List ℕ → List ℕ → Type 0
IsStatusDigest hash paths text = IsProgramsDigest hash Status paths text

-- the digest of the contents of each program
abbrev pub IsContentsDigest : (List ℕ → List ℕ) → List ℕ → List ℕ → Type 0
IsContentsDigest hash paths text = IsProgramsDigest hash Contents paths text
