-- what bytes hold for a key
use Rattle.std.specs.Prelude.{◌≡◌, ℕ, List, Option, Some, None}
use Rattle.cck_cache_rules.specs.Files.{EntryFields, ObjectFields}
use Rattle.cck_cache_rules.specs.Reading.{ReadsBackOf}

abbrev pub key_of_entry : EntryFields → List ℕ
key_of_entry file = file.preprocessor_key

abbrev pub key_of_object : ObjectFields → List ℕ
key_of_object file = file.key

-- What is read of bytes for a key: the one value of the key that these bytes are written for, and nothing where they are written for no value of
-- the key. Only values with a property count.
abbrev pub ReadsFor : {X : Type 0} → (X → Type 0) → (X → List ℕ) → (X → List ℕ) → List ℕ → List ℕ → Option X → Type 0
ReadsFor {X} Is key_of write key written None = (x : X) → Is x → key_of x ≡ key → write x ≡ written → ⊥
ReadsFor {X} Is key_of write key written (Some found) = (key_of found ≡ key) × ReadsBackOf Is write written (Some found)
