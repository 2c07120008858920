-- the paths of a store
use Rattle.std.specs.Prelude.{◌≡◌, ◌≢◌, ℕ, List, ◌++◌, Bool, ◌&&◌, ◌||◌, length, take, slice_index, nat_lt, nat_le, if◌then◌else◌, codes, string_bytes}
use Rattle.std.specs.Fmt.{decimal}
use Rattle.cck_cache_files.specs.declared.store_directory.Kind.{Kind}
use Rattle.cck_cache_files.specs.declared.store_directory.Kind.TheVariants.{Entry, Object}
use Rattle.cck_cache_files.specs.declared.store_directory.StoreDirectory.{StoreDirectory}

-- the directory of a store
abbrev pub directory_bytes : StoreDirectory → List ℕ
directory_bytes store = string_bytes store.directory

-- the store is in this directory, and the names of its new files end in the number of this process
pub record IsStoreIn (store : StoreDirectory) (directory : List ℕ) (id : ℕ) : Type 0 where
  pub directory_is : directory_bytes store ≡ directory
  pub suffix_is : string_bytes store.suffix ≡ codes "new" ++ decimal id

-- the name of the directory of a kind
abbrev pub kind_name : Kind → List ℕ
kind_name Entry = codes "entries"
kind_name Object = codes "objects"

-- no character of the text is cut after this many bytes
abbrev pub is_char_boundary : List ℕ → ℕ → Bool
is_char_boundary text count = nat_le count (length text) && (nat_lt (slice_index text count) 128 || nat_le 192 (slice_index text count))

-- the first two digits of a key, or two zeros where a character would be cut after them
abbrev pub first_digits : List ℕ → List ℕ
first_digits key = if is_char_boundary key 2 then take 2 key else codes "00"

-- the directory of the file of a key, in the directory of a store
abbrev pub key_directory : List ℕ → Kind → List ℕ → List ℕ
key_directory directory kind key = directory ++ codes "/" ++ kind_name kind ++ codes "/" ++ first_digits key

-- the path of the file of a key
abbrev pub key_path : List ℕ → Kind → List ℕ → List ℕ
key_path directory kind key = key_directory directory kind key ++ codes "/" ++ key

-- the path of the file that keeps a digest of this name
abbrev pub digest_path : List ℕ → List ℕ → List ℕ
digest_path directory name = directory ++ codes "/digests/" ++ name

-- in one store the files of two keys have one path only if kind and key are the same
abbrev pub KeyPathsDiffer : Type 0
KeyPathsDiffer =
    (directory : List ℕ) (a b : Kind) (k l : List ℕ) → key_path directory a k ≡ key_path directory b l → (a ≡ b) × (k ≡ l)

-- the files that keep two digests have one path only if they have one name, and none has the path of the file of a key
abbrev pub DigestPathsDiffer : Type 0
DigestPathsDiffer = (directory m n : List ℕ) → (digest_path directory m ≡ digest_path directory n → m ≡ n)
    × ((kind : Kind) → digest_path directory m ≢ key_path directory kind n)
