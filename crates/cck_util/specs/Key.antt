-- the key of an object
use Rattle.std.specs.Prelude.{ℕ, List, [], ◌∷◌, ◌++◌, Bool, true, false, Option, None, codes, map}
use Rattle.cck_digest.specs.Digest.{digest_text}
use Rattle.cck_digest.specs.Frames.{frame, framed_list, framed_option}
use Rattle.cck_path.specs.Variables.{Variable}
use Rattle.cck_strip.specs.Argument.{stripped_argument}
use Rattle.cck_strip.specs.Text.{stripped_text}
use Rattle.cck_util.specs.Language.{language_name}
use Rattle.cck_util.specs.Variables.{object_variables, variable_frames}
use Rattle.cck_util.specs.declared.language.Language.{Language}

-- what a caller passes for a key
pub record Params : Type 0 where
  pub compiler_digest : List ℕ
  pub language : Language
  pub arguments : List (List ℕ)
  pub preprocessor_output : List ℕ
  pub extra_hashes : List (List ℕ)
  pub env_vars : List Variable
  pub plusplus : Bool
  pub basedirs : List (List ℕ)
  pub assembler_digest : Option (List ℕ)

-- these parts, with no other set
abbrev pub plain_params : List ℕ → Language → List (List ℕ) → List ℕ → Params
plain_params compiler_digest language arguments preprocessor_output = record {
  compiler_digest = compiler_digest;
  language = language;
  arguments = arguments;
  preprocessor_output = preprocessor_output;
  extra_hashes = [];
  env_vars = [];
  plusplus = false;
  basedirs = [];
  assembler_digest = None;
}

-- what is hashed for a key
pub record KeyParts : Type 0 where
  pub compiler_digest : List ℕ
  pub plusplus : Bool
  pub language : Language
  pub arguments : List (List ℕ)
  pub extra_hashes : List (List ℕ)
  pub assembler_digest : Option (List ℕ)
  pub variables : List Variable
  pub output : List ℕ

-- the part of what is passed that is hashed: the arguments and the text without the base directories, the variables
-- that change a compiler's output, and everything else as it is passed
abbrev pub key_parts : Params → KeyParts
key_parts p = record {
  compiler_digest = p.compiler_digest;
  plusplus = p.plusplus;
  language = p.language;
  arguments = map (stripped_argument p.basedirs) p.arguments;
  extra_hashes = p.extra_hashes;
  assembler_digest = p.assembler_digest;
  variables = object_variables p.env_vars;
  output = stripped_text p.basedirs p.preprocessor_output;
}

-- a flag as a byte
abbrev pub flag_byte : Bool → ℕ
flag_byte true = 1
flag_byte false = 0

-- the version of key material
abbrev pub cache_version : List ℕ
cache_version = codes "14"

-- the key material: all that is hashed for a key, in order
unfoldable pub material : KeyParts → List ℕ
material p =
    frame cache_version ++ frame p.compiler_digest ++ flag_byte p.plusplus ∷ [] ++ frame (language_name p.language)
    ++ framed_list frame p.arguments
    ++ framed_list frame p.extra_hashes
    ++ framed_option p.assembler_digest
    ++ framed_list variable_frames p.variables
    ++ frame p.output

-- the key, with this hash function
abbrev pub object_key : (List ℕ → List ℕ) → Params → List ℕ
object_key hash p = digest_text hash (material (key_parts p))
