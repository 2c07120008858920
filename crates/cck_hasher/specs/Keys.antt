-- the two keys of a call: the preprocessor key, and the plain key, which does not depend on a store
use Rattle.std.specs.Prelude.{List, ◌++◌, Bool, true, ◌&&◌, ◌||◌, not, is_none, if◌then◌else◌, Option, None, codes, map}
use Rattle.std.specs.Option.{option_map, option_map_or, option_and_then}
use Rattle.std.specs.Result.{result_ok}
use Rattle.std.specs.Str.{str_eq_ignore_ascii_case}
use Rattle.cck_compiler.specs.Arguments.{is_multiarch}
use Rattle.cck_digest.specs.Digest.{digest_text}
use Rattle.cck_files.specs.FileDigest.{texts}
use Rattle.cck_files.specs.FileMap.{FileNode, file_at}
use Rattle.cck_include.specs.Recorded.{recorded}
use Rattle.cck_path.specs.Bytes.{Bytes}
use Rattle.cck_path.specs.Path.{components}
use Rattle.cck_path.specs.Variables.{Variable, first_value}
use Rattle.cck_compiler.specs.PreprocessorKey.{RequestParts, hashed_directory, preprocessor_material}
use Rattle.cck_strip.specs.Argument.{stripped_argument}
use Rattle.cck_strip.specs.Text.{stripped_text}
use Rattle.cck_util.specs.Key.{KeyParts, material}
use Rattle.cck_util.specs.Language.{is_preprocessed_first}
use Rattle.cck_util.specs.Variables.{object_variables, request_variables}
use Rattle.cck_hasher.specs.Call.{Call, Request}
use Rattle.cck_hasher.specs.Walk.{input_path}
use Rattle.cck_hasher.specs.World.{World, setting}

-- `false`, `off` or `0`, in any case
abbrev pub is_off : Bytes → Bool
is_off value = str_eq_ignore_ascii_case value (codes "false") || str_eq_ignore_ascii_case value (codes "off") || str_eq_ignore_ascii_case value (codes "0")

-- the variables don't switch the preprocessor cache off
unfoldable pub is_direct : List Variable → Bool
is_direct env_vars = option_map_or (λ value. not (is_off value)) (first_value env_vars (codes "SCCACHE_DIRECT")) true

module _ {V : Type 0} (w : World V) where
  -- the preprocessor cache is used
  unfoldable pub uses_cache : Request V → Bool
  uses_cache q =
      is_preprocessed_first q.arguments.language && (w.config.use_preprocessor_cache_mode
      && (is_none q.arguments.too_hard_for_preprocessor_cache_mode && is_direct q.env_vars))

  -- the hex digests of the extra files, if each has one
  unfoldable pub extra_texts : Call V → Option (List Bytes)
  extra_texts c = texts w.hash c.files (map components c.request.arguments.extra_hash_files)

  -- the input, if it is a regular file
  unfoldable pub input_file : Call V → Option FileNode
  input_file c = result_ok (file_at c.files (components (input_path c)))

  -- the recorded digest of the input, if it has one
  unfoldable pub input_recorded : Call V → Option Bytes
  input_recorded c = option_and_then (recorded (setting w c)) (input_file c)

  abbrev pub assembler_digest : Request V → Option Bytes
  assembler_digest q = if q.arguments.uses_external_assembler then w.assembler_digest q.compiler else None

  -- what a request says for the preprocessor key
  unfoldable pub request_parts : Request V → Bytes → RequestParts
  request_parts q input = record {
    compiler_digest = q.executable_digest;
    plusplus = w.plusplus q.compiler;
    language = q.arguments.language;
    multiarch = is_multiarch q.arguments;
    preprocessor_args = q.arguments.preprocessor_args;
    arch_args = q.arguments.arch_args;
    common_args = q.arguments.common_args;
    assembler_digest = assembler_digest q;
    variables = request_variables q.env_vars;
    input_file = input;
    directory = hashed_directory w.config q.cwd;
  }

  -- the key material of that key, if there is one: the cache is used, all extra files have digests, and the input has a recorded digest
  unfoldable pub key_material : Call V → Option Bytes
  key_material c =
      if uses_cache c.request
      then option_and_then (λ extra. option_map (preprocessor_material (request_parts c.request (input_path c)) extra) (input_recorded c)) (extra_texts c)
      else None

  -- the preprocessor key
  unfoldable pub preprocessor_key_of : Call V → Option Bytes
  preprocessor_key_of c = option_map (digest_text w.hash) (key_material c)

  -- what the compiler's preprocessor prints
  unfoldable pub printed : Call V → Option Bytes
  printed c = w.prints c.request.compiler c.request.executable c.request.arguments c.request.cwd c.request.env_vars c.files c.moment

  -- the text of the plain key: what is printed, or the input itself where no preprocessor is needed
  unfoldable pub text_of : Call V → Option Bytes
  text_of c = if is_preprocessed_first c.request.arguments.language then printed c else option_map (λ n. n.contents) (input_file c)

  -- the parts of the material of the plain key, from a request, the hex digests of the extra files and the text
  unfoldable pub plain_parts : Request V → List Bytes → Bytes → KeyParts
  plain_parts q extra_hashes text = record {
    compiler_digest = q.executable_digest;
    plusplus = w.plusplus q.compiler;
    language = q.arguments.language;
    arguments = map (stripped_argument w.basedirs) (q.arguments.common_args ++ q.arguments.arch_args);
    extra_hashes = extra_hashes;
    assembler_digest = assembler_digest q;
    variables = object_variables q.env_vars;
    output = stripped_text w.basedirs text;
  }

  -- the plain key, if there is a text and all extra files have digests
  unfoldable pub plain_key : Call V → Option Bytes
  plain_key c = option_and_then (λ extra. option_map (λ text. digest_text w.hash (material (plain_parts c.request extra text))) (text_of c)) (extra_texts c)
