-- the program's results as values of the definitions
use Rattle.std.specs.Prelude.{Result, Ok, Err}
use Rattle.std.specs.String.{string_bytes}
use Rattle.cck_digest.specs.declared.error.FileError.TheVariants as file
use Rattle.cck_digest.specs.declared.error.UtilError.{UtilError}
use Rattle.cck_digest.specs.declared.error.UtilError.TheVariants as util
use Rattle.cck_digest.specs.declared.key_error.KeyError.{KeyError}
use Rattle.cck_digest.specs.declared.key_error.KeyError.TheVariants as key
use Rattle.cck_digest.specs.declared.preprocess_error.PreprocessError.TheVariants as text
use Rattle.cck_hasher.specs.Call as calls
use Rattle.cck_hasher.specs.Call.{CallResult, Keyed, ReturnsError, Why}
use Rattle.cck_hasher.specs.declared.call.HashResult.{HashResult}

-- the cause of an error: a fault, or the other one
abbrev pub by_cause : Why → Why → UtilError → Why
by_cause other fault (util.File file.Fault) = fault
by_cause other fault (util.File file.NotFound) = other
by_cause other fault (util.File file.OtherKind) = other
by_cause other fault (util.File file.Memory) = other
by_cause other fault util.Memory = other
by_cause other fault util.Read = other
by_cause other fault util.TooDeep = other
by_cause other fault util.TooLong = other
by_cause other fault util.Write = other
by_cause other fault util.IncompleteEscape = other
by_cause other fault util.InvalidEscape = other
by_cause other fault util.IncompleteHex = other
by_cause other fault util.InvalidHex = other

-- the cause of an error
abbrev pub why_of : KeyError → Why
why_of key.Memory = calls.Memory
why_of (key.Extra e) = by_cause calls.Extra calls.ExtraFault e
why_of (key.Input e) = by_cause calls.Input calls.InputFault e
why_of key.Store = calls.Store
why_of (key.Entry e) = calls.Damaged
why_of (key.Preprocess text.Fault) = calls.TextFault
why_of (key.Preprocess text.Failed) = calls.NoText
why_of (key.Preprocess text.Memory) = calls.NoText
why_of key.Marker = calls.Marker

abbrev pub result_of : Result HashResult KeyError → CallResult
result_of (Ok r) = Keyed (string_bytes r.key) r.is_locally_preprocessed
result_of (Err e) = ReturnsError (why_of e)
