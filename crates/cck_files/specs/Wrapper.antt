-- wrappers, and the compilers that they wrap
use Rattle.std.specs.Prelude.{ℕ, ◌==◌, ◌&&◌, ◌||◌, List, [], ◌∷◌, ◌++◌, length, take, Bool, false, not, if◌then◌else◌, Option, None, Some, Result, Ok, Err, codes, filter, map}
use Rattle.std.specs.List.{find, list_any, slice_split}
use Rattle.std.specs.Option.{option_map_or, unwrap_or}
use Rattle.std.specs.Str.{bytes_eq, str_eq_ignore_ascii_case}
use Rattle.cck_digest.specs.declared.error.FileError.{FileError}
use Rattle.cck_files.specs.FileMap.{FileMap, canonical_at, exists_at}
use Rattle.cck_path.specs.Names.{file_name_of, name_of}
use Rattle.cck_path.specs.Path.{Component, Path, components, has_root}
use Rattle.cck_path.specs.Text.{join_path}
use Rattle.cck_path.specs.Variables.{Variable, first_value}

-- the names of the wrappers
abbrev pub wrapper_names : List (List ℕ)
wrapper_names = codes "ccache" ∷ codes "sccache" ∷ []

-- the name begins with these bytes, in any ASCII case
abbrev pub begins_with : List ℕ → List ℕ → Bool
begins_with name beginning = str_eq_ignore_ascii_case (take (length beginning) name) beginning

-- the name is this program's, or begins with it and a `.`, in any ASCII case
unfoldable pub is_program : List ℕ → List ℕ → Bool
is_program name program = str_eq_ignore_ascii_case name program || begins_with name (program ++ 46 ∷ [])

-- the name of a wrapper
unfoldable pub is_wrapper_name : List ℕ → Bool
is_wrapper_name name = list_any (is_program name) wrapper_names

-- the path of a wrapper
abbrev pub is_wrapper : Path → Bool
is_wrapper p = option_map_or is_wrapper_name (file_name_of p) false

-- whether a canonical path is a wrapper's; false for an error
abbrev pub leads_if : Result Path FileError → Bool
leads_if (Ok p) = is_wrapper p
leads_if (Err e) = false

-- whether a path leads to a wrapper
unfoldable pub leads_to_wrapper : FileMap → Path → Bool
leads_to_wrapper m p = leads_if (canonical_at m p)

-- the component is `ccache` or `sccache`, byte for byte
abbrev pub is_wrapper_component : Component → Bool
is_wrapper_component c = option_map_or (λ name. list_any (bytes_eq name) wrapper_names) (name_of c) false

-- the path has a component `ccache` or `sccache`
unfoldable pub has_wrapper_component : List ℕ → Bool
has_wrapper_component path = list_any is_wrapper_component (components path)

-- the `:`-parts of a search path that are no wrapper's
unfoldable pub kept_parts : List ℕ → List (List ℕ)
kept_parts path = filter (λ part. not (has_wrapper_component part)) (slice_split (λ c. c == 58) path)

-- the paths at which a program of this name is looked up, from a search path
abbrev pub places : Option (List ℕ) → Option (List ℕ) → List (List ℕ)
places None path = []
places (Some name) None = []
places (Some name) (Some path) = map (λ part. join_path part name) (kept_parts path)

-- the paths at which the executable's file name is looked up, from the first `PATH`
abbrev pub candidates : List ℕ → List Variable → List (List ℕ)
candidates executable variables = places (file_name_of (components executable)) (first_value variables (codes "PATH"))

-- there is a node at the path, and the path leads to no wrapper
unfoldable pub is_compiler : FileMap → Path → Bool
is_compiler m p = exists_at m p && not (leads_to_wrapper m p)

-- an absolute path that doesn't lead to a wrapper
unfoldable pub is_settled : FileMap → Path → Bool
is_settled m p = has_root p && not (leads_to_wrapper m p)

-- the compiler that replaces the executable: none if the executable is settled, otherwise the first candidate that is
-- a compiler
unfoldable pub found_compiler : FileMap → List ℕ → List Variable → Option (List ℕ)
found_compiler m executable variables =
    if is_settled m (components executable) then None
    else find (λ path. is_compiler m (components path)) (candidates executable variables)

-- the path of the compiler that the executable names
abbrev pub resolved : FileMap → List ℕ → List Variable → List ℕ
resolved m executable variables = unwrap_or (found_compiler m executable variables) executable
