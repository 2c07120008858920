-- which files of a store are sound
use Rattle.std.specs.Prelude.{◌≡◌, ◌<◌, ◌==◌, ℕ, Bool, List}
use Rattle.std.specs.List.{before_first}
use Rattle.cck_entry.specs.Entry.{Entry, EntryText}
use Rattle.cck_cache_files.specs.EntryNames.{entry_files, entry_name}
use Rattle.cck_cache_rules.specs.Files.{EntryFields, IsEntryFile, ObjectFields, entry_file, object_file}

abbrev pub is_point : ℕ → Bool
is_point b = b == 46

-- the key in the name of an entry file: what is before the first point
abbrev pub key_in : List ℕ → List ℕ
key_in name = before_first is_point name

-- the name is that of an entry file of its key, at one of the places
abbrev pub IsEntryName : List ℕ → Type 0
IsEntryName name = (place : ℕ) × (place < entry_files) × (name ≡ entry_name (key_in name) place)

-- the bytes are an entry file of this key, whose entry is one
abbrev pub HasEntryOf : List ℕ → List ℕ → Type 0
HasEntryOf key bytes =
    (file : EntryFields) × IsEntryFile file × (file.preprocessor_key ≡ key) × (entry_file file ≡ bytes) × ((e : Entry) × EntryText e file.entry)

-- the bytes are those of the entry file of this name
abbrev pub IsSoundEntry : List ℕ → List ℕ → Type 0
IsSoundEntry name bytes = IsEntryName name × HasEntryOf (key_in name) bytes

-- the bytes are those of the object file of this name
abbrev pub IsSoundObject : List ℕ → List ℕ → Type 0
IsSoundObject name bytes = (object : ObjectFields) × (object.key ≡ name) × (object_file object ≡ bytes)
