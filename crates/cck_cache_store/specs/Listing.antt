-- what is printed of the files of a store
use Rattle.std.specs.Prelude.{◌≡◌, [], ◌∷◌, ◌++◌, codes, length}
use Rattle.std.specs.Fmt.{decimal}
use Rattle.std.specs.List.{flat_map}
use Rattle.cck_cache_rules.specs.Files.{EntryFields, ObjectFields}
use Rattle.cck_cache_rules.specs.PathStatus.{Status}
use Rattle.cck_cache_rules.specs.PathTest.{Test}
use Rattle.cck_cache_rules.specs.PathTest.Test.{Absent, Directory, File, Plain, Real, Searched}
use Rattle.cck_explain_listing.specs.Bytes.{IsEntryListing}
use Rattle.cck_explain_listing.specs.EntryListing.{moment_text}
use Rattle.cck_explain_listing.specs.Quoted.{quoted}
use Rattle.cck_path.specs.Bytes.{Bytes}

-- a word and a text in quotation marks, on a line
abbrev pub text_line : Bytes → Bytes → Bytes
text_line word text = word ++ quoted text ++ 10 ∷ []

-- a status: the path, the device, the inode, and the times of its last modification and last change
abbrev pub status_line : Status → Bytes
status_line s =
    codes "status " ++ quoted s.path ++ codes " " ++ decimal s.device ++ codes " " ++ decimal s.inode ++ codes " "
    ++ moment_text s.modified ++ codes " " ++ moment_text s.changed ++ 10 ∷ []

-- a test: its word and its path, with the place of a directory that is searched before it, and the real path after it
abbrev pub test_line : Test → Bytes
test_line (Absent path) = text_line (codes "absent ") path
test_line (File path) = text_line (codes "file ") path
test_line (Directory path) = text_line (codes "directory ") path
test_line (Searched path place) = text_line (codes "searched " ++ decimal place ++ codes " ") path
test_line (Plain path) = text_line (codes "plain ") path
test_line (Real path real) = codes "real " ++ quoted path ++ text_line (codes " ") real

-- the key, the listing of the entry, each status and each test
abbrev pub IsEntryFileListing : EntryFields → Bytes → Type 0
IsEntryFileListing file listing =
    (entry : Bytes) × IsEntryListing file.entry entry
    × (listing ≡ text_line (codes "preprocessor_key ") file.preprocessor_key ++ entry ++ flat_map status_line file.statuses ++ flat_map test_line file.tests)

-- the name, the number of bytes of the object, the messages, and the contents of the dependency file
abbrev pub object_file_listing : ObjectFields → Bytes
object_file_listing o =
    text_line (codes "name ") o.key ++ codes "object " ++ decimal (length o.object) ++ 10 ∷ []
    ++ text_line (codes "messages ") o.messages ++ text_line (codes "dependencies ") o.dependencies
