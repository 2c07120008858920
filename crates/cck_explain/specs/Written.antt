-- what is written of a listing
use Rattle.std.specs.Prelude.{◌≡◌, ◌↔◌, ◌⊎◌, Option, Some}
use Rattle.std.specs.Io.KnownBytes.{Appends}
use Rattle.cck_command.specs.Printing.{AppendsBeginning}
use Rattle.cck_explain_listing.specs.Bytes as entry
use Rattle.cck_explain_listing.specs.declared.entry_text.EntryError.{EntryError}
use Rattle.cck_explain_listing.specs.declared.entry_text.EntryError.TheVariants as variants
use Rattle.cck_digest.specs.declared.error.UtilError.{UtilError}
use Rattle.cck_digest.specs.declared.error.UtilError.TheVariants as util
use Rattle.cck_path.specs.Bytes.{Bytes}
use Rattle.cck_command.specs.Script.{wrong_line}
use Rattle.cck_command.specs.declared.script.error.ScriptError.{ScriptError}
use Rattle.cck_command.specs.declared.script.error.ScriptError.TheVariants as script
use Rattle.cck_explain.specs.declared.error.ExplainError.{ExplainError}
use Rattle.cck_explain.specs.declared.error.ExplainError.TheVariants.{Memory, Read, Write, NotEntry, Line}

-- such a listing was written
abbrev pub WritesOf : (Bytes → Type 0) → Option Bytes → Option Bytes → Type 0
WritesOf IsListing old new = (listing : Bytes) × IsListing listing × Appends old new listing

-- nothing was written, or a prefix of such a listing
abbrev pub BeginsOf : (Bytes → Type 0) → Option Bytes → Option Bytes → Type 0
BeginsOf IsListing old new = (new ≡ old) ⊎ ((listing : Bytes) × IsListing listing × AppendsBeginning old new listing)

-- the program's error for that of an entry
abbrev pub explained_by : EntryError → ExplainError
explained_by variants.Memory = Memory
explained_by (variants.NotEntry fault) = NotEntry fault

-- the program's error for that of a script
abbrev pub explained_by_script : ScriptError → ExplainError
explained_by_script script.Memory = Memory
explained_by_script (script.Line number) = Line number

-- the program's error for one of readers, files and memory: that of a failed read, and else lack of memory
abbrev pub IsExplainedByUtil : UtilError → ExplainError → Type 0
IsExplainedByUtil error explained = ((explained ≡ Read) ↔ (error ≡ util.Read)) × ((explained ≡ Read) ⊎ (explained ≡ Memory))

-- bytes are called no entry only if they are none, and a line of a script wrong only if it is the first wrong one; nothing was written then
abbrev pub IsExplainErrorFor : Bytes → ExplainError → Option Bytes → Option Bytes → Type 0
IsExplainErrorFor bytes Memory old new = Unit {0}
IsExplainErrorFor bytes Read old new = Unit {0}
IsExplainErrorFor bytes Write old new = Unit {0}
IsExplainErrorFor bytes (NotEntry fault) old new = (new ≡ old) × entry.IsErrorFor bytes (variants.NotEntry fault)
IsExplainErrorFor bytes (Line number) old new = (new ≡ old) × (wrong_line bytes ≡ Some number)
