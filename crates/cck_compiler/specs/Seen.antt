-- the program's values, as the definitions describe them
use Rattle.std.specs.Prelude.{◌≡◌, ℕ, Option, Some, None, Result, Ok, Err, String, map}
use Rattle.std.specs.Global.{Vec}
use Rattle.std.specs.Option.{option_map}
use Rattle.std.specs.String.{string_bytes}
use Rattle.std.specs.declared.alloc.Global.{Global}
use Rattle.cck_digest.specs.declared.preprocess_error.PreprocessError.{PreprocessError}
use Rattle.cck_digest.specs.declared.preprocess_error.PreprocessError.TheVariants as text
use Rattle.cck_path.specs.Bytes.{Bytes, lists_of}
use Rattle.cck_compiler.specs.Arguments.{Arguments, Output}
use Rattle.cck_compiler.specs.Compiler.{CannotCache, Compilation, NotCompilation, Parsed}
use Rattle.cck_compiler.specs.declared.arguments.ArtifactDescriptor.{ArtifactDescriptor}
use Rattle.cck_compiler.specs.declared.arguments.ParsedArguments.{ParsedArguments}
use Rattle.cck_compiler.specs.declared.compiler.CompilerArguments.{CompilerArguments}
use Rattle.cck_compiler.specs.declared.compiler.CompilerArguments.TheVariants as parsed

abbrev pub output_of : String Global × ArtifactDescriptor → Output
output_of o = record { name = string_bytes (o.0); path = o.1.path.items; optional = o.1.optional }

abbrev pub arguments_of : ParsedArguments → Arguments
arguments_of a = record {
  input = a.input.items;
  double_dash_input = a.double_dash_input;
  language = a.language;
  compilation_flag = a.compilation_flag.items;
  depfile = option_map (λ v. v.items) a.depfile;
  outputs = map output_of a.outputs.entries;
  dependency_args = lists_of a.dependency_args.items;
  preprocessor_args = lists_of a.preprocessor_args.items;
  common_args = lists_of a.common_args.items;
  arch_args = lists_of a.arch_args.items;
  unhashed_args = lists_of a.unhashed_args.items;
  extra_dist_files = lists_of a.extra_dist_files.items;
  extra_hash_files = lists_of a.extra_hash_files.items;
  uses_external_assembler = a.uses_external_assembler;
  msvc_show_includes = a.msvc_show_includes;
  msvc_explicit_language = a.msvc_explicit_language;
  profile_generate = a.profile_generate;
  color_mode = a.color_mode;
  suppress_rewrite_includes_only = a.suppress_rewrite_includes_only;
  too_hard_for_preprocessor_cache_mode = option_map (λ v. v.items) a.too_hard_for_preprocessor_cache_mode;
}

abbrev pub parsed_of : CompilerArguments ParsedArguments → Parsed
parsed_of (parsed.Ok a) = Compilation (arguments_of a)
parsed_of (parsed.CannotCache reason detail) = CannotCache reason.now (option_map string_bytes detail)
parsed_of parsed.NotCompilation = NotCompilation

-- the text that is printed; a failure where none is; a fault only where one came; or lack of memory
abbrev pub IsPrinted : Option Bytes → Type 0 → Result (Vec ℕ) PreprocessError → Type 0
IsPrinted prints HasFault (Ok printed) = prints ≡ Some printed.items
IsPrinted prints HasFault (Err text.Fault) = HasFault
IsPrinted prints HasFault (Err text.Failed) = prints ≡ None
IsPrinted prints HasFault (Err text.Memory) = Unit {0}
