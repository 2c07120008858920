-- the bytes of entry files and of object files
use Rattle.std.specs.Prelude.{ℕ, List, [], ◌∷◌, ◌++◌, codes, map}
use Rattle.cck_cache_rules.specs.PathStatus.{AreStatuses, Status, status_bytes, statuses_of}
use Rattle.cck_cache_rules.specs.PathTest.{Test, test_bytes, tests_of}
use Rattle.cck_cache_rules.specs.Stored.{stored_file}
use Rattle.cck_cache_rules.specs.declared.entry_file.EntryFile.{EntryFile}
use Rattle.cck_cache_rules.specs.declared.object_file.ObjectFile.{ObjectFile}

-- what an entry file holds
pub record EntryFields : Type 0 where
  pub preprocessor_key : List ℕ
  pub entry : List ℕ
  pub statuses : List Status
  pub tests : List Test

abbrev pub entry_fields : EntryFile → EntryFields
entry_fields file = record {
  preprocessor_key = file.preprocessor_key.items;
  entry = file.entry.items;
  statuses = statuses_of file.statuses.items;
  tests = tests_of file.tests.items;
}

-- an entry file that a program has
abbrev pub IsEntryFile : EntryFields → Type 0
IsEntryFile file = AreStatuses file.statuses

-- what an object file of the store holds
pub record ObjectFields : Type 0 where
  pub key : List ℕ
  pub object : List ℕ
  pub messages : List ℕ
  pub dependencies : List ℕ

abbrev pub object_fields : ObjectFile → ObjectFields
object_fields file = record {
  key = file.key.items;
  object = file.object.items;
  messages = file.messages.items;
  dependencies = file.dependencies.items;
}

-- the parts of an entry file: the preprocessor key, the entry, each status and each test
abbrev pub entry_parts : EntryFields → List (List ℕ)
entry_parts file = file.preprocessor_key ∷ file.entry ∷ (map status_bytes file.statuses ++ map test_bytes file.tests)

-- the parts of an object file: the key, the object, the messages and the contents of the dependency file
abbrev pub object_parts : ObjectFields → List (List ℕ)
object_parts file = file.key ∷ file.object ∷ file.messages ∷ file.dependencies ∷ []

-- an entry file
abbrev pub entry_file : EntryFields → List ℕ
entry_file file = stored_file (codes "cck entry 4\n") (entry_parts file)

-- an object file of the store
abbrev pub object_file : ObjectFields → List ℕ
object_file file = stored_file (codes "cck object 4\n") (object_parts file)
