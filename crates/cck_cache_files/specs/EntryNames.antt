-- the names of the entry files of a preprocessor key
use Rattle.std.specs.Prelude.{◌≡◌, ◌<◌, ◌^◌, ℕ, List, ◌++◌, nat_eq, if◌then◌else◌, codes, length}
use Rattle.std.specs.Fmt.{decimal}

-- the most entry files of a preprocessor key
abbrev pub entry_files : ℕ
entry_files = 16

-- The name of the file at a place: the key itself at the first one, and else the key, a point and the number of the place.
abbrev pub entry_name : List ℕ → ℕ → List ℕ
entry_name key place = if nat_eq place 0 then key else key ++ codes "." ++ decimal place

-- two files have one name only if they are of one key, if all keys have one length, and at one place
abbrev pub EntryNamesDiffer : Type 0
EntryNamesDiffer =
    (k l : List ℕ) (m n : ℕ) → length k ≡ length l → m < 2 ^ 64 → n < 2 ^ 64 → entry_name k m ≡ entry_name l n → (k ≡ l) × (m ≡ n)
