-- the error of a call for a key, from the error of a call that it makes
use Rattle.cck_digest.specs.declared.error.FileError.{FileError}
use Rattle.cck_digest.specs.declared.error.FileError.TheVariants as file
use Rattle.cck_digest.specs.declared.error.UtilError.TheVariants as util
use Rattle.cck_digest.specs.declared.key_error.KeyError.{KeyError}
use Rattle.cck_digest.specs.declared.key_error.KeyError.TheVariants.{Memory, Input, Entry, Preprocess}
use Rattle.cck_digest.specs.declared.preprocess_error.PreprocessError.{PreprocessError}
use Rattle.cck_digest.specs.declared.preprocess_error.PreprocessError.TheVariants as text
use Rattle.cck_digest.specs.declared.entry_error.Error.{Error}
use Rattle.cck_digest.specs.declared.entry_error.Error.TheVariants as entry

abbrev pub input_error : FileError → KeyError
input_error file.Memory = Memory
input_error other = Input (util.File other)

abbrev pub key_error_of : Error → KeyError
key_error_of (entry.Io cause) = Input cause
key_error_of other = Memory

abbrev pub text_error : PreprocessError → KeyError
text_error text.Memory = Memory
text_error other = Preprocess other

abbrev pub entry_error : Error → KeyError
entry_error entry.Memory = Memory
entry_error other = Entry other
