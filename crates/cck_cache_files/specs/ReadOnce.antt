-- files that gcc reads once
use Rattle.std.specs.Prelude.{◌≡◌, ◌≢◌, ◌⊎◌, [], ◌∷◌, Option, Some, None, Ok, codes, drop, nat_eq, if◌then◌else◌}
use Rattle.std.specs.List.{starts_with}
use Rattle.cck_digest.specs.TimeMacros.{Has}
use Rattle.cck_files.specs.FileMap.{FileMap, contents_at}
use Rattle.cck_path.specs.Bytes.{Bytes}
use Rattle.cck_path.specs.Path.{components}

-- a byte order mark
abbrev pub byte_order_mark : Bytes
byte_order_mark = 239 ∷ 187 ∷ 191 ∷ []

-- a text without the byte order mark at its front
abbrev pub unmarked : Bytes → Bytes
unmarked contents = if starts_with nat_eq contents byte_order_mark then drop 3 contents else contents

-- the word of a pragma with which a file is read once is in a text
abbrev pub HasOnce : Bytes → Type 0
HasOnce contents = Has contents (codes "once")

-- gcc may read a file of these contents once: any file may be imported, or the contents have the word
abbrev pub MayBeOnce : Type 0 → Bytes → Type 0
MayBeOnce IsAny contents = IsAny ⊎ HasOnce contents

-- what gcc compares of the regular file at a path, if it may read it once
abbrev pub IsReadOnce : FileMap → Type 0 → Bytes → Option Bytes → Type 0
IsReadOnce files IsAny path None = (contents : Bytes) → contents_at files (components path) ≡ Ok contents → MayBeOnce IsAny contents → ⊥
IsReadOnce files IsAny path (Some compared) = (contents : Bytes) × (contents_at files (components path) ≡ Ok contents) × MayBeOnce IsAny contents × (compared ≡ unmarked contents)

-- two different paths among these are of files of which gcc compares the same
abbrev pub HasCopies : FileMap → Type 0 → (Bytes → Type 0) → Type 0
HasCopies files IsAny IsPath =
    (a b compared : Bytes) × (a ≢ b) × IsPath a × IsPath b × IsReadOnce files IsAny a (Some compared) × IsReadOnce files IsAny b (Some compared)
