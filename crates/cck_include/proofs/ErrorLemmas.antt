-- Errors that are lack of memory or of files.
use Rattle.cck_digest.specs.declared.error.FileError.{FileError}
use Rattle.cck_digest.specs.declared.error.UtilError.TheVariants as util
use Rattle.cck_digest.specs.declared.entry_error.Error.{Error}
use Rattle.cck_digest.specs.declared.entry_error.Error.TheVariants.{Io, Deserialization, UnknownFormat, Memory}
use Rattle.cck_include.specs.Errors.{IsOfFiles}

-- what holds for lack of memory, and for each error of files that may come, holds for the error
pub by_file_error : (Holds : FileError → Type 0) (Goal : Error → Type 0) (e : Error) → IsOfFiles Holds e → Goal Memory → ((f : FileError) → Holds f → Goal (Io (util.File f))) → Goal e
by_file_error Holds Goal Memory h memory of_file = memory
by_file_error Holds Goal (Io (util.File f)) h memory of_file = of_file f h
by_file_error Holds Goal (Io util.Memory) h memory of_file = absurd h
by_file_error Holds Goal (Io util.Read) h memory of_file = absurd h
by_file_error Holds Goal (Io util.TooDeep) h memory of_file = absurd h
by_file_error Holds Goal (Io util.TooLong) h memory of_file = absurd h
by_file_error Holds Goal (Io util.Write) h memory of_file = absurd h
by_file_error Holds Goal (Io util.IncompleteEscape) h memory of_file = absurd h
by_file_error Holds Goal (Io util.InvalidEscape) h memory of_file = absurd h
by_file_error Holds Goal (Io util.IncompleteHex) h memory of_file = absurd h
by_file_error Holds Goal (Io util.InvalidHex) h memory of_file = absurd h
by_file_error Holds Goal Deserialization h memory of_file = absurd h
by_file_error Holds Goal (UnknownFormat byte) h memory of_file = absurd h
