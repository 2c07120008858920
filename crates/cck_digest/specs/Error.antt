-- the error of the libraries for an error of a call on files
use Rattle.cck_digest.specs.declared.error.FileError.{FileError}
use Rattle.cck_digest.specs.declared.error.FileError.TheVariants.{NotFound, OtherKind, Fault, Memory}
use Rattle.cck_digest.specs.declared.error.UtilError.{UtilError}
use Rattle.cck_digest.specs.declared.error.UtilError.TheVariants as util

-- lack of memory stays lack of memory, and any other error is wrapped
abbrev pub util_error : FileError → UtilError
util_error NotFound = util.File NotFound
util_error OtherKind = util.File OtherKind
util_error Fault = util.File Fault
util_error Memory = util.Memory
