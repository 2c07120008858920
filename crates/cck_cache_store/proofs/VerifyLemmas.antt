-- which files of a store are sound
use Rattle.std.proofs.Common.{◌≡◌, ◌↔◌, ℕ, List, IsTrue, Some, None, false, true, refl}
use Rattle.cck_cache_rules.specs.Contents.{ReadsFor, key_of_entry, key_of_object}
use Rattle.cck_cache_rules.specs.Files.{EntryFields, IsEntryFile, ObjectFields, entry_file, object_file}
use Rattle.cck_cache_rules.specs.Reading.{IsAny}
use Rattle.cck_cache_store.specs.Verify.{IsEntryName, IsSoundEntry, IsSoundObject, key_in}
use Rattle.cck_entry.specs.Entry.{Entry, EntryText}

pub false_true : false ≡ true → ⊥
false_true e = cc

-- an object file was read of the bytes, or none was
pub object_found : (name bytes : List ℕ) (object : ObjectFields) → ReadsFor IsAny key_of_object object_file name bytes (Some object) → IsTrue true ↔ IsSoundObject name bytes
object_found name bytes object read = (λ e. (object, read.0, read.1.1), λ s. refl)

pub object_missing : (name bytes : List ℕ) → ReadsFor IsAny key_of_object object_file name bytes None → IsTrue false ↔ IsSoundObject name bytes
object_missing name bytes read = (λ e. absurd (false_true e), λ s. absurd (read s.0 tt s.1 s.2))

-- an entry file was read of the bytes, with an entry
pub entry_found : (name bytes : List ℕ) (file : EntryFields) → IsEntryName name → ReadsFor IsEntryFile key_of_entry entry_file (key_in name) bytes (Some file) → ((e : Entry) × EntryText e file.entry) → IsTrue true ↔ IsSoundEntry name bytes
entry_found name bytes file named read entry = (λ e. (named, (file, read.1.0, read.0, read.1.1, entry)), λ s. refl)
