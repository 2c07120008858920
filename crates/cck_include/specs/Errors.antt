-- the errors for the node at a path
use Rattle.std.specs.Prelude.{Result}
use Rattle.cck_digest.specs.declared.error.FileError.TheVariants.{NotFound, OtherKind, Fault}
use Rattle.cck_digest.specs.declared.error.FileError.TheVariants as file
use Rattle.cck_digest.specs.declared.error.FileError.{FileError}
use Rattle.cck_digest.specs.declared.error.UtilError.TheVariants as util
use Rattle.cck_files.specs.Calls.{IsError}
use Rattle.cck_digest.specs.declared.entry_error.Error.{Error}
use Rattle.cck_digest.specs.declared.entry_error.Error.TheVariants.{Io, Memory}

-- lack of memory, or an error of files for which this holds
abbrev pub IsOfFiles : (FileError → Type 0) → Error → Type 0
IsOfFiles Holds Memory = Unit {0}
IsOfFiles Holds (Io (util.File e)) = Holds e
IsOfFiles Holds other = ⊥

-- the error of the map itself, a fault where there was one, or lack of memory
abbrev pub IsIoError : {X : Type 0} → Result X FileError → Type 0 → Error → Type 0
IsIoError found HasFault = IsOfFiles (IsError found HasFault)

-- lack of memory stays lack of memory, and any other error is an error of files
abbrev pub io_error : FileError → Error
io_error NotFound = Io (util.File NotFound)
io_error OtherKind = Io (util.File OtherKind)
io_error Fault = Io (util.File Fault)
io_error file.Memory = Memory

-- a node is missing, or there was a fault
abbrev pub IsMissingNode : Type 0 → Type 0 → FileError → Type 0
IsMissingNode Missing HasFault NotFound = Missing
IsMissingNode Missing HasFault OtherKind = ⊥
IsMissingNode Missing HasFault Fault = HasFault
IsMissingNode Missing HasFault file.Memory = ⊥

-- a node is missing, there was a fault, or memory is lacking
abbrev pub IsMissing : Type 0 → Type 0 → Error → Type 0
IsMissing Missing HasFault = IsOfFiles (IsMissingNode Missing HasFault)
