-- the preprocessor key
use Rattle.std.specs.Prelude.{◌≡◌, ◌↔◌, ℕ, List, [], ◌∷◌, ◌++◌, Bool, Option, Some, None, if◌then◌else◌}
use Rattle.cck_digest.specs.Digest.{digest_text}
use Rattle.cck_digest.specs.Frames.{frame, framed_list, framed_option}
use Rattle.cck_path.specs.Variables.{Variable}
use Rattle.cck_include.specs.Include.{format_version}
use Rattle.cck_include.specs.declared.config.PreprocessorCacheModeConfig.{PreprocessorCacheModeConfig}
use Rattle.cck_util.specs.Key.{cache_version, flag_byte}
use Rattle.cck_util.specs.Language.{language_name}
use Rattle.cck_util.specs.Variables.{variable_frames}
use Rattle.cck_util.specs.declared.language.Language.{Language}

-- the parts of a request that are hashed for this key, besides those that depend on files; of its variables those that
-- change what is preprocessed or compiled
pub record RequestParts : Type 0 where
  pub compiler_digest : List ℕ
  pub plusplus : Bool
  pub language : Language
  pub multiarch : Bool
  pub preprocessor_args : List (List ℕ)
  pub arch_args : List (List ℕ)
  pub common_args : List (List ℕ)
  pub assembler_digest : Option (List ℕ)
  pub variables : List Variable
  pub input_file : List ℕ
  pub directory : Option (List ℕ)

-- the working directory, if the options make it part of the key
abbrev pub hashed_directory : PreprocessorCacheModeConfig → List ℕ → Option (List ℕ)
hashed_directory config cwd = if config.hash_working_directory then Some cwd else None

-- what is hashed first: the versions, the compiler, and how it is run
unfoldable pub compiler_material : RequestParts → List ℕ
compiler_material p =
    format_version ∷ [] ++ frame cache_version ++ frame p.compiler_digest ++ flag_byte p.plusplus ∷ [] ++ frame (language_name p.language)
    ++ flag_byte p.multiarch ∷ []

-- the key material: all that is hashed for the key, in order
unfoldable pub preprocessor_material : RequestParts → List (List ℕ) → List ℕ → List ℕ
preprocessor_material p extra_hashes recorded =
    compiler_material p
    ++ framed_list frame p.preprocessor_args
    ++ framed_list frame p.arch_args
    ++ framed_list frame p.common_args
    ++ framed_list frame extra_hashes
    ++ framed_option p.assembler_digest
    ++ framed_list variable_frames p.variables
    ++ frame p.input_file
    ++ framed_option p.directory
    ++ frame recorded

-- the key, with this hash function
abbrev pub preprocessor_key : (List ℕ → List ℕ) → RequestParts → List (List ℕ) → List ℕ → List ℕ
preprocessor_key hash p extra_hashes recorded = digest_text hash (preprocessor_material p extra_hashes recorded)

-- key materials are equal exactly if all parts of the request, the hex digests of the extra files, and the recorded
-- digest of the input are
abbrev pub PreprocessorMaterialTellsParts : Type 0
PreprocessorMaterialTellsParts =
    (p q : RequestParts) (xs ys : List (List ℕ)) (r s : List ℕ)
    → preprocessor_material p xs r ≡ preprocessor_material q ys s ↔ ((p ≡ q) × (xs ≡ ys) × (r ≡ s))
