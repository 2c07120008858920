-- requests as requests over snapshots
use Rattle.std.specs.Prelude.{◌≡◌, ◌⊎◌, ℕ, Bool, ◌==◌, ◌||◌, nat_eq, List, [], ◌∷◌, ◌++◌, IsTrue, Option, Some, None, codes, flat_map, string_bytes, if◌then◌else◌}
use Rattle.std.specs.Borrow.{Bor}
use Rattle.std.specs.List.{after_first, before_first, ends_with, slice_split}
use Rattle.std.specs.Option.{option_map}
use Rattle.cck_hasher.specs.Keys.{preprocessor_key_of}
use Rattle.cck_hasher.specs.Opening.{IsPreprocessorKey}
use Rattle.cck_hasher.specs.declared.call.CacheControl.TheVariants.{Default}
use Rattle.cck_hasher.specs.declared.hasher.CCompilerHasher.{CCompilerHasher}
use Rattle.cck_hasher.specs.declared.hasher.opening.PreprocessorKey.{PreprocessorKey}
use Rattle.cck_cache_rules.specs.Base.{BaseOf, WordLists}
use Rattle.cck_cache.specs.Input.{IsInput}
use Rattle.cck_cache.specs.declared.environment.Environment.{Environment}
use Rattle.cck_cache_files.specs.declared.request.Request.{Request}
use Rattle.cck_cache_options.specs.Call.{is_assembler, is_cplusplus}
use Rattle.cck_cache_files.specs.Compiler.{IsContentsDigest, IsStatusDigest, is_hex_digest}
use Rattle.cck_compiler.specs.Arguments.{Arguments, only_input}
use Rattle.cck_compiler.specs.Seen.{arguments_of}
use Rattle.cck_compiler.specs.declared.compiler.CCompilerKind.{CCompilerKind}
use Rattle.cck_compiler.specs.declared.compiler.CCompilerKind.TheVariants.{Clang, Gcc}
use Rattle.cck_files.specs.FileMap.{FileMap}
use Rattle.cck_path.specs.Bytes.{Bytes, lists_of}
use Rattle.cck_path.specs.Timestamp.{Moment}
use Rattle.c_cache_keys.specs.External.{External, external_of, no_text}
use Rattle.c_cache_keys.specs.Requests.{call_for, world_for}
use Rattle.c_cache_keys.specs.declared.compiler.ExternalCompiler.{ExternalCompiler}
use Rattle.c_cache_keys.specs.declared.requests.SnapshotRequest.{SnapshotRequest}
use Rattle.cck_include.specs.Config.{activated}
use Rattle.cck_util.specs.declared.language.Language.{Language}
use Rattle.cck_util.specs.declared.language.Language.TheVariants.{AssemblerToPreprocess, C, Cxx}
use Rattle.sha2.specs.Sha256.{sha256}

-- the words that the base directory depends on
abbrev pub request_words : Request → WordLists
request_words request = record {
  base = option_map (λ b. b.now) request.base;
  directory = request.directory.now;
  arguments = lists_of request.arguments.items;
}

abbrev pub base_argument : Option Bytes → List Bytes
base_argument None = []
base_argument (Some base) = (codes "base=" ++ base) ∷ []

-- the arguments, the working directory, the variables of the compiler, and the base directory of portable words
abbrev pub keyed_arguments : WordLists → Bytes → Option Bytes → List Bytes
keyed_arguments words variables base =
    words.arguments ++ (codes "directory=" ++ words.directory) ∷ (codes "variables=" ++ variables) ∷ base_argument base

abbrev pub AreKeyed : WordLists → Bytes → List Bytes → Type 0
AreKeyed words variables arguments = (base : Option Bytes) × BaseOf words base × (arguments ≡ keyed_arguments words variables base)

abbrev pub is_colon : ℕ → Bool
is_colon byte = byte == 58

-- the second of a compiler's programs, which have colons between them
abbrev pub proper_program : Bytes → Bytes
proper_program programs = before_first is_colon (after_first is_colon programs)

-- a compiler takes a source in C for one in C++: this program is that for C++
abbrev pub is_plusplus : Bytes → Bool
is_plusplus programs =
    ends_with nat_eq (proper_program programs) (codes "/cc1plus") || ends_with nat_eq (proper_program programs) (codes "/clang++")

-- the compiler with these programs takes this input for one in C++
abbrev pub compiles_plusplus : Bytes → Bytes → Bool
compiles_plusplus programs input = is_plusplus programs || is_cplusplus input

-- a colon and a program, and nothing for that of gcc for C++
abbrev pub other_program : Bytes → Bytes
other_program program = if ends_with nat_eq program (codes "/cc1plus") then [] else 58 ∷ program

-- the programs that a compilation of an input runs: that of gcc for C++ only where the input is in C++
abbrev pub programs_for : Bytes → Bytes → Bytes
programs_for programs input =
    if compiles_plusplus programs input then programs else after_first is_colon (flat_map other_program (slice_split is_colon programs))

-- a compiler is clang: this program has its name
abbrev pub is_clang : Bytes → Bool
is_clang programs =
    ends_with nat_eq (proper_program programs) (codes "/clang") || ends_with nat_eq (proper_program programs) (codes "/clang++")

abbrev pub kind_of : Bytes → CCompilerKind
kind_of programs = if is_clang programs then Clang else Gcc

-- the language of an input, by the compiler and by its name
abbrev pub language_of : Request → Language
language_of request =
    if is_assembler request.input.now then AssemblerToPreprocess
    else if compiles_plusplus (string_bytes request.compiler) request.input.now then Cxx else C

-- the compiler with these programs, whose version and assembler are part of their digest
abbrev pub compiler_of : Bytes → External
compiler_of programs = record { kind = kind_of programs; plusplus = is_plusplus programs; version = None; assembler_digest = None }

-- a command line with this input of this language, these definitions of macros, of which the text shows those that count, and these other arguments
abbrev pub given_arguments : Bytes → Language → List Bytes → List Bytes → Arguments
given_arguments input language definitions arguments =
    record (only_input input language) { preprocessor_args = definitions; common_args = arguments }

-- The digest of these programs: of what the system says of each. Where a directory keeps digests, it is that of their
-- contents, or 64 digits. No clause says that the directory has these.
abbrev pub IsCompilerDigest : Option (Bor Bytes) → Bytes → Bytes → Type 0
IsCompilerDigest None programs digest = IsStatusDigest sha256 programs digest
IsCompilerDigest (Some _) programs digest = IsTrue (is_hex_digest digest) ⊎ IsContentsDigest sha256 programs digest

-- The compilation of a request.
pub record IsHasher (environment : Environment) (request : Request) (hasher : CCompilerHasher ExternalCompiler) : Type 0 where
  pub compiler : external_of hasher.compiler ≡ compiler_of (string_bytes request.compiler)
  pub executable : hasher.executable.items ≡ []
  pub digest : IsCompilerDigest request.digests (string_bytes request.compiler) (string_bytes hasher.executable_digest)
  pub arguments : List Bytes
  pub keyed : AreKeyed (request_words request) environment.compiler_variables.items arguments
  pub parsed : arguments_of hasher.parsed_args ≡ given_arguments request.input.now (language_of request) (lists_of request.definitions.items) arguments

-- the request over a snapshot, at this time and with these base directories
pub record IsRequest (environment : Environment) (request : Request) (time : Moment) (bases : List Bytes) (asked : SnapshotRequest) : Type 0 where
  pub hasher : IsHasher environment request asked.hasher.now
  pub cwd : asked.cwd.now ≡ request.directory.now
  pub vars : asked.vars.now ≡ environment.variables.items
  pub moment : asked.moment ≡ time
  pub zone : asked.zone.now ≡ environment.zone
  pub config : asked.config ≡ activated
  pub basedirs : lists_of asked.basedirs.now ≡ bases

-- the preprocessor key over these files, if there is one
abbrev pub key_over : SnapshotRequest → FileMap → Option Bytes
key_over asked files = preprocessor_key_of (world_for sha256 no_text asked) (call_for Default files asked)

-- the same, with the recorded digest of the input
abbrev pub IsKeyOver : SnapshotRequest → FileMap → PreprocessorKey → Type 0
IsKeyOver asked files key = IsPreprocessorKey (world_for sha256 no_text asked) (call_for Default files asked) (Some key)

-- this is the preprocessor key over a snapshot that has the input alone, if it has one
pub record HasPreprocessorKey (environment : Environment) (request : Request) (key : Option Bytes) : Type 0 where
  pub input : FileMap
  pub is_input : IsInput request input
  pub asked : SnapshotRequest
  pub is_request : IsRequest environment request environment.now [] asked
  pub is_key : key_over asked input ≡ key
