-- why no text is printed
use Rattle.std.specs.Prelude.{◌≡◌, Option, None}
use Rattle.cck_digest.specs.declared.error.FileError.{FileError}
use Rattle.cck_digest.specs.declared.error.FileError.TheVariants as file
use Rattle.cck_command.specs.declared.mini.error.PrintError.{PrintError}
use Rattle.cck_command.specs.declared.mini.error.PrintError.TheVariants.{Fault, Failed, Memory}

-- there is no text, a call on files failed, or memory is lacking
abbrev pub IsPrintError : {X : Type 0} → Option X → Type 0 → PrintError → Type 0
IsPrintError text HasFault Fault = HasFault
IsPrintError text HasFault Failed = text ≡ None
IsPrintError text HasFault Memory = Unit {0}

-- a lack of memory and a fault keep their variants
abbrev pub print_error : FileError → PrintError
print_error file.NotFound = Failed
print_error file.OtherKind = Failed
print_error file.Fault = Fault
print_error file.Memory = Memory
