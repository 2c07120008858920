-- what the program writes for what its words ask for, and its status
use Rattle.std.specs.Prelude.{◌≡◌, ◌≢◌, ◌∷◌, ◌++◌, [], None, Option, IfSome, codes}
use Rattle.cck_command.specs.Printing.{AppendsBeginning}
use Rattle.cck_command.specs.declared.status.Status.{Status}
use Rattle.cck_command.specs.declared.status.Status.TheVariants.{Done, Failed, Usage}
use Rattle.cck_explain_listing.specs.Bytes as entry
use Rattle.cck_explain_listing.specs.MarkerListing.{AreMarkerLines}
use Rattle.cck_explain.specs.ScriptListing as script
use Rattle.cck_path.specs.Bytes.{Bytes}
use Rattle.cck_command.specs.Script.{commands_of, wrong_line}
use Rattle.clap.specs.declared.error.kind.ErrorKind.{ErrorKind}
use Rattle.clap.specs.declared.error.kind.ErrorKind.TheVariants.{DisplayHelp, DisplayVersion, OutOfMemory}
use Rattle.cck_explain.specs.Key.{key_listing}
use Rattle.cck_explain.specs.ExplainKeyRequest.{params_for}
use Rattle.cck_explain.specs.Written.{BeginsOf, WritesOf}
use Rattle.cck_explain.specs.declared.request.ExplainRequest.{ExplainRequest}
use Rattle.cck_explain.specs.declared.request.ExplainRequest.TheVariants.{Key, Entry, Markers, Script}

-- the listing of a script that has no wrong line
abbrev pub ListsScript : (Bytes → Bytes) → Bytes → Bytes → Type 0
ListsScript hash text listing = (wrong_line text ≡ None) × script.IsScriptListing hash (commands_of text) listing

-- the listing that is asked for, of this input
abbrev pub Lists : (Bytes → Bytes) → ExplainRequest → Bytes → Bytes → Type 0
Lists hash (Key request) input listing = listing ≡ key_listing hash request.is_full (params_for request input)
Lists hash Entry input listing = entry.IsEntryListing input listing
Lists hash (Markers request) input listing = AreMarkerLines request.input.now request.cwd.now input listing
Lists hash Script input listing = ListsScript hash input listing

-- the line that says what the error is
abbrev pub error_line : Bytes → Bytes
error_line why = codes "cck_explain: " ++ why ++ 10 ∷ []

-- there is an error: a prefix of such a line was written to the errors
abbrev pub HasErrorLine : Option Bytes → Option Bytes → Type 0
HasErrorLine old new = (why : Bytes) × AppendsBeginning old new (error_line why)

-- what is written for a request, with this status: all of the listing, or a prefix of it
abbrev pub HasOutcome : (Bytes → Bytes) → ExplainRequest → Option Bytes → Status → Option Bytes → Option Bytes → Type 0
HasOutcome hash request input Done old new = IfSome input (λ bytes. WritesOf (Lists hash request bytes) old new)
HasOutcome hash request input Failed old new = IfSome input (λ bytes. BeginsOf (Lists hash request bytes) old new)
HasOutcome hash request input Usage old new = ⊥

-- The status where clap returns an error of this kind. Where it is help or the version, only a failed write or lack of memory gives another.
-- Wrong words are a usage error, unless memory is lacking for its text.
abbrev pub StatusOf : ErrorKind → Status → Type 0
StatusOf DisplayHelp status = status ≢ Usage
StatusOf DisplayVersion status = status ≢ Usage
StatusOf OutOfMemory status = status ≡ Failed
StatusOf _ status = status ≢ Done
