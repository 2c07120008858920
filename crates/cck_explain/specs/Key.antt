-- the parts of key material
use Rattle.std.specs.Prelude.{◌≡◌, ℕ, suc, List, [], ◌∷◌, ◌++◌, Bool, Option, Some, None, codes, length}
use Rattle.std.specs.Fmt.{decimal}
use Rattle.cck_digest.specs.Frames.{length_bytes}
use Rattle.cck_path.specs.Bytes.{Bytes}
use Rattle.cck_path.specs.Variables.{Variable}
use Rattle.cck_util.specs.Key.{KeyParts, Params, cache_version, flag_byte, key_parts, material, object_key}
use Rattle.cck_util.specs.Language.{language_name}
use Rattle.cck_explain_listing.specs.CutListing.{argument_cut_lines, text_cut_lines}
use Rattle.cck_explain.specs.Listing.{Part, bytes_of_parts, listed_parts, part_lines}

-- a part of this name
abbrev pub part : Bytes → Bytes → Part
part name bytes = record { name = name; bytes = bytes }

-- the length or the count before what has this name
abbrev pub length_part : Bytes → ℕ → Part
length_part name n = part (name ++ codes ".length") (length_bytes n)

-- a frame: the length of these bytes, and the bytes
abbrev pub frame_parts : Bytes → Bytes → List Part
frame_parts name bytes = length_part name (length bytes) ∷ part name bytes ∷ []

-- the name of item i
abbrev pub item_name : Bytes → ℕ → Bytes
item_name name i = name ++ codes "[" ++ decimal i ++ codes "]"

-- a frame for each item, the first of which has the number i
abbrev pub frames_parts : Bytes → ℕ → List Bytes → List Part
frames_parts name i [] = []
frames_parts name i (item ∷ items) = frame_parts (item_name name i) item ++ frames_parts name (suc i) items

-- the count of these items, and a frame for each
abbrev pub list_parts : Bytes → List Bytes → List Part
list_parts name items = length_part name (length items) ∷ frames_parts name 0 items

-- an option: the byte 0; or the byte 1, and a frame
abbrev pub option_parts : Bytes → Option Bytes → List Part
option_parts name None = part (name ++ codes ".option") (0 ∷ []) ∷ []
option_parts name (Some bytes) = part (name ++ codes ".option") (1 ∷ []) ∷ frame_parts name bytes

-- for each variable a frame of its name and one of its value
abbrev pub variables_parts : Bytes → ℕ → List Variable → List Part
variables_parts name i [] = []
variables_parts name i (variable ∷ variables) =
    frame_parts (item_name name i ++ codes ".name") (variable.0) ++ frame_parts (item_name name i ++ codes ".value") (variable.1)
    ++ variables_parts name (suc i) variables

-- the parts of the key material, by upstream's names
abbrev pub material_parts : KeyParts → List Part
material_parts p =
    frame_parts (codes "CACHE_VERSION") cache_version
    ++ frame_parts (codes "compiler_digest") p.compiler_digest
    ++ part (codes "plusplus") (flag_byte p.plusplus ∷ []) ∷ []
    ++ frame_parts (codes "language") (language_name p.language)
    ++ list_parts (codes "arguments") p.arguments
    ++ list_parts (codes "extra_hashes") p.extra_hashes
    ++ option_parts (codes "assembler_digest") p.assembler_digest
    ++ (length_part (codes "env_vars") (length p.variables) ∷ variables_parts (codes "env_vars") 0 p.variables)
    ++ frame_parts (codes "preprocessor_output") p.output

-- listed whole or in rows, the parts are the key material: their bytes are all that is hashed for the key, in order
abbrev pub PartsAreMaterial : Type 0
PartsAreMaterial = (is_full : Bool) (p : KeyParts) → bytes_of_parts (listed_parts is_full (material_parts p)) ≡ material p

-- the line of a key
abbrev pub listed_key_line : Bytes → Bytes
listed_key_line key = codes "key " ++ key ++ 10 ∷ []

-- a line for each base directory that is cut out of these arguments, the first of which has the number i
abbrev pub arguments_cut_lines : List Bytes → ℕ → List Bytes → Bytes
arguments_cut_lines basedirs i [] = []
arguments_cut_lines basedirs i (argument ∷ arguments) =
    argument_cut_lines basedirs (item_name (codes "arguments") i) argument ++ arguments_cut_lines basedirs (suc i) arguments

-- a line for each base directory that is cut out of what is passed for a key
abbrev pub all_cut_lines : List Bytes → List Bytes → Bytes → Bytes
all_cut_lines basedirs arguments text = arguments_cut_lines basedirs 0 arguments ++ text_cut_lines basedirs (codes "preprocessor_output") text

-- the listing of a key: its parts, what is cut out, and the key
abbrev pub key_listing : (Bytes → Bytes) → Bool → Params → Bytes
key_listing hash is_full p =
    part_lines 0 (listed_parts is_full (material_parts (key_parts p)))
    ++ (all_cut_lines p.basedirs p.arguments p.preprocessor_output ++ listed_key_line (object_key hash p))
