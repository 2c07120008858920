-- the variables of the environment that change a compiler's output
use Rattle.std.specs.Prelude.{ℕ, List, [], ◌∷◌, ◌++◌, codes, filter}
use Rattle.std.specs.List.{list_any}
use Rattle.std.specs.Str.{bytes_eq}
use Rattle.cck_digest.specs.Frames.{frame}
use Rattle.cck_path.specs.Variables.{Variable}

-- the names of the variables that are part of an object's key
abbrev pub object_variable_names : List (List ℕ)
object_variable_names =
    codes "SCCACHE_C_CUSTOM_CACHE_BUSTER" ∷ codes "MACOSX_DEPLOYMENT_TARGET"
    ∷ codes "IPHONEOS_DEPLOYMENT_TARGET" ∷ codes "TVOS_DEPLOYMENT_TARGET"
    ∷ codes "WATCHOS_DEPLOYMENT_TARGET" ∷ codes "SDKROOT" ∷ codes "CCC_OVERRIDE_OPTIONS" ∷ []

-- the names of the variables that list the preprocessor's include directories
abbrev pub include_path_names : List (List ℕ)
include_path_names =
    codes "CPATH" ∷ codes "C_INCLUDE_PATH" ∷ codes "CPLUS_INCLUDE_PATH"
    ∷ codes "OBJC_INCLUDE_PATH" ∷ codes "OBJCPLUS_INCLUDE_PATH" ∷ []

-- the variables that have one of these names, in their order
abbrev pub variables_named : List (List ℕ) → List Variable → List Variable
variables_named names variables = filter (λ v. list_any (bytes_eq (v.0)) names) variables

-- the variables that are part of an object's key, in their order
abbrev pub object_variables : List Variable → List Variable
object_variables variables = variables_named object_variable_names variables

-- the variables that are part of the preprocessor key, in their order: those of an object's key, and those that list
-- include directories
abbrev pub request_variables : List Variable → List Variable
request_variables variables = variables_named (object_variable_names ++ include_path_names) variables

-- a variable as frames of its name and of its value
abbrev pub variable_frames : Variable → List ℕ
variable_frames variable = frame (variable.0) ++ frame (variable.1)
