-- a parsed command line
use Rattle.std.specs.Prelude.{List, [], ◌∷◌, Bool, false, not, Option, None, codes, filter, length, nat_le}
use Rattle.std.specs.List.{find}
use Rattle.std.specs.Option.{option_and_then, option_map, option_map_or}
use Rattle.std.specs.Str.{bytes_eq}
use Rattle.cck_files.specs.FolderText.{lossy}
use Rattle.cck_path.specs.Bytes.{Bytes}
use Rattle.cck_path.specs.Names.{file_name_of}
use Rattle.cck_path.specs.Path.{components}
use Rattle.cck_util.specs.declared.language.Language.{Language}
use Rattle.cck_compiler.specs.declared.arguments.ColorMode.{ColorMode}
use Rattle.cck_compiler.specs.declared.arguments.ColorMode.TheVariants.{Auto}

-- a file that a compilation writes: under which name, where, and whether it may be left out
pub record Output : Type 0 where
  pub name : Bytes
  pub path : Bytes
  pub optional : Bool

-- a parsed command line, without its places in memory
pub record Arguments : Type 0 where
  pub input : Bytes
  pub double_dash_input : Bool
  pub language : Language
  pub compilation_flag : Bytes
  pub depfile : Option Bytes
  pub outputs : List Output
  pub dependency_args : List Bytes
  pub preprocessor_args : List Bytes
  pub common_args : List Bytes
  pub arch_args : List Bytes
  pub unhashed_args : List Bytes
  pub extra_dist_files : List Bytes
  pub extra_hash_files : List Bytes
  pub uses_external_assembler : Bool
  pub msvc_show_includes : Bool
  pub msvc_explicit_language : Bool
  pub profile_generate : Bool
  pub color_mode : ColorMode
  pub suppress_rewrite_includes_only : Bool
  pub too_hard_for_preprocessor_cache_mode : Option Bytes

-- the command line with this input alone
abbrev pub only_input : Bytes → Language → Arguments
only_input input language = record {
  input = input;
  double_dash_input = false;
  language = language;
  compilation_flag = [];
  depfile = None;
  outputs = [];
  dependency_args = [];
  preprocessor_args = [];
  common_args = [];
  arch_args = [];
  unhashed_args = [];
  extra_dist_files = [];
  extra_hash_files = [];
  uses_external_assembler = false;
  msvc_show_includes = false;
  msvc_explicit_language = false;
  profile_generate = false;
  color_mode = Auto;
  suppress_rewrite_includes_only = false;
  too_hard_for_preprocessor_cache_mode = None;
}

-- these, each at its first place alone
abbrev pub each_once : List Bytes → List Bytes
each_once [] = []
each_once (a ∷ others) = a ∷ filter (λ b. not (bytes_eq b a)) (each_once others)

-- the argument names an architecture
abbrev pub is_arch : Bytes → Bool
is_arch argument = not (bytes_eq argument (codes "-arch"))

-- the architectures that are asked for
unfoldable pub archs : Arguments → List Bytes
archs a = each_once (filter is_arch a.arch_args)

-- there are two of them or more
unfoldable pub is_multiarch : Arguments → Bool
is_multiarch a = nat_le 2 (length (archs a))

-- the path of the output of this name, if there is one
abbrev pub output_path : Bytes → Arguments → Option Bytes
output_path name a = option_map (λ o. o.path) (find (λ o. bytes_eq name o.name) a.outputs)

-- the displayed name of the output `obj`: the file name of its path, with U+FFFD for what is no UTF-8
unfoldable pub output_name : Arguments → Bytes
output_name a = option_map_or lossy (option_and_then (λ path. file_name_of (components path)) (output_path (codes "obj") a)) (codes "Unknown filename")
