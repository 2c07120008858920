-- the files that no command line names, but whose digests are part of the keys
use Rattle.std.specs.Prelude.{◌==◌, List, [], ◌∷◌, ◌++◌, length, take, drop, Bool, true, false, ◌&&◌, if◌then◌else◌, Option, None, Some, Result, Ok, Err, codes, filter, map}
use Rattle.std.specs.List.{find, flat_map, slice_split}
use Rattle.std.specs.Option.{option_and_then, option_map, option_map_or, unwrap_or}
use Rattle.std.specs.Str.{bytes_eq, is_utf8}
use Rattle.cck_digest.specs.declared.error.FileError.{FileError}
use Rattle.cck_files.specs.FileMap.{FileMap, folder_at}
use Rattle.cck_files.specs.Folder.{child_names}
use Rattle.cck_path.specs.Bytes.{Bytes}
use Rattle.cck_path.specs.Names.{extension_of, file_name_of}
use Rattle.cck_path.specs.Path.{components}
use Rattle.cck_path.specs.Text.{join_path}
use Rattle.cck_path.specs.Variables.{Variable}
use Rattle.cck_util.specs.declared.language.Language.{Language}
use Rattle.cck_util.specs.declared.language.Language.TheVariants.{Hip}
use Rattle.cck_compiler.specs.Compiler.{CannotCache, Compilation, NotCompilation, Parsed}
use Rattle.cck_compiler.specs.Arguments.{Arguments}

-- the paths that a variable gives, if it is the one that names extra files: the parts between its colons
abbrev pub named_by : Variable → List Bytes
named_by v = if bytes_eq (v.0) (codes "SCCACHE_EXTRAFILES") then slice_split (λ c. c == 58) (v.1) else []

-- the paths that the variables name, in order
unfoldable pub named_files : List Variable → List Bytes
named_files variables = flat_map named_by variables

-- the argument is text and begins with a flag
abbrev pub has_flag : Bytes → Bytes → Bool
has_flag flag argument = is_utf8 argument && bytes_eq (take (length flag) argument) flag

-- what follows a flag, in the first argument that is text and begins with it
unfoldable pub flag_value : Bytes → List Bytes → Option Bytes
flag_value flag arguments = option_map (drop (length flag)) (find (has_flag flag) arguments)

-- the value of the first variable of this name whose value is text
unfoldable pub text_value : Bytes → List Variable → Option Bytes
text_value name variables = option_map (λ v. v.1) (find (λ v. bytes_eq (v.0) name && is_utf8 (v.1)) variables)

-- the first that is there
abbrev pub first_of : List (Option Bytes) → Option Bytes
first_of [] = None
first_of (None ∷ others) = first_of others
first_of (Some x ∷ others) = Some x

-- where a release of ROCm has its device libraries
abbrev pub below_release : Bytes → Bytes
below_release release = join_path release (codes "amdgcn/bitcode")

-- the directory of the device libraries: by a flag, by a variable, or by a flag or a variable for the release's place
unfoldable pub library_folder : List Bytes → List Variable → Bytes
library_folder arguments variables = unwrap_or (first_of (
    flag_value (codes "--hip-device-lib-path=") arguments
    ∷ text_value (codes "HIP_DEVICE_LIB_PATH") variables
    ∷ option_map below_release (flag_value (codes "--rocm-path=") arguments)
    ∷ option_map below_release (text_value (codes "ROCM_PATH") variables)
    ∷ [])) (codes "/opt/rocm/amdgcn/bitcode")

-- the extension of the name is `bc`
unfoldable pub is_library : Bytes → Bool
is_library name = option_map_or (λ extension. bytes_eq extension (codes "bc")) (option_and_then extension_of (file_name_of (components name))) false

-- these, if there is a directory
abbrev pub if_folder : Result (Unit {0}) FileError → List Bytes → List Bytes
if_folder (Ok u) names = names
if_folder (Err e) names = []

-- the paths of the device libraries in a directory, in order; none where it is no directory
unfoldable pub libraries : FileMap → Bytes → List Bytes
libraries m folder = map (join_path folder) (filter is_library (if_folder (folder_at m (components folder)) (child_names m.nodes (components folder))))

abbrev pub is_hip : Language → Bool
is_hip Hip = true
is_hip other = false

-- the extra files: those that the variables name and, for HIP, the device libraries
unfoldable pub extra_files : FileMap → List Variable → Arguments → List Bytes
extra_files m variables a = named_files variables ++ (if is_hip a.language then libraries m (library_folder a.common_args variables) else [])

-- the arguments with these files after those whose digests are part of the keys already
abbrev pub with_extra_files : FileMap → List Variable → Arguments → Arguments
with_extra_files m variables a = record a { extra_hash_files = a.extra_hash_files ++ extra_files m variables a }

-- the result of parsing, with them
abbrev pub completed : FileMap → List Variable → Parsed → Parsed
completed m variables (Compilation a) = Compilation (with_extra_files m variables a)
completed m variables (CannotCache reason detail) = CannotCache reason detail
completed m variables NotCompilation = NotCompilation
