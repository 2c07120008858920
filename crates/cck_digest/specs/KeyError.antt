-- the error of a call that computes a key
use Rattle.std.specs.Prelude.{◌≡◌, ℕ}
use Rattle.cck_digest.specs.declared.error.FileError.TheVariants as file
use Rattle.cck_digest.specs.declared.error.UtilError.{UtilError}
use Rattle.cck_digest.specs.declared.error.UtilError.TheVariants as util
use Rattle.cck_digest.specs.declared.key_error.KeyError.{KeyError}
use Rattle.cck_digest.specs.declared.key_error.KeyError.TheVariants.{Memory, Extra, Input, Store, Entry, Preprocess, Marker}

-- the number of an error
abbrev pub number_of : KeyError → ℕ
number_of Memory = 1
number_of (Extra e) = 2
number_of (Input e) = 3
number_of Store = 4
number_of (Entry e) = 5
number_of (Preprocess e) = 6
number_of Marker = 7

-- the error for an extra file without a digest: lack of memory stays lack of memory
abbrev pub extra_error : UtilError → KeyError
extra_error util.Memory = Memory
extra_error other = Extra other

-- the error is that of a fault at an extra file
abbrev pub IsFileFault : KeyError → Type 0 → Type 0
IsFileFault e HasFault = (e ≡ Extra (util.File file.Fault)) × HasFault
