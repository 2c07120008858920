-- a compiler by what was given to it
use Rattle.std.specs.Prelude.{List, Bool, Option, Some, None, Result, Ok, Err, codes, string_bytes}
use Rattle.std.specs.Option.{option_map}
use Rattle.cck_compiler.specs.Arguments.{Arguments}
use Rattle.cck_compiler.specs.Compiler.{CannotCache as cannot_cache, Compilation as compilation, Compiler, NotCompilation as no_compilation, Parsed}
use Rattle.cck_compiler.specs.Seen.{arguments_of}
use Rattle.cck_compiler.specs.declared.compiler.CCompilerKind.{CCompilerKind}
use Rattle.cck_digest.specs.declared.error.FileError.{FileError}
use Rattle.cck_files.specs.FileMap.{FileMap, contents_at}
use Rattle.cck_path.specs.Bytes.{Bytes}
use Rattle.cck_path.specs.Path.{components}
use Rattle.cck_path.specs.Text.{join_path}
use Rattle.cck_path.specs.Timestamp.{Moment}
use Rattle.cck_path.specs.Variables.{Variable}
use Rattle.cck_vectors.specs.declared.call_cases.fixed_compiler.FixedCompiler.{FixedCompiler}
use Rattle.cck_vectors.specs.declared.call_cases.fixed_compiler.FixedReading.{FixedReading}
use Rattle.cck_vectors.specs.declared.call_cases.fixed_compiler.FixedReading.TheVariants as reading

-- what was given, without where it lies in memory
pub record Fixed : Type 0 where
  pub text : Bytes
  pub kind : CCompilerKind
  pub plusplus : Bool
  pub version : Option Bytes
  pub assembler : Option Bytes
  pub parsed : Parsed

-- what each command line is parsed as
abbrev pub parsed_as : FixedReading → Arguments → Option Bytes → Parsed
parsed_as reading.Compilation arguments detail = compilation arguments
parsed_as reading.CannotCache arguments detail = cannot_cache (codes "-E") detail
parsed_as reading.NotCompilation arguments detail = no_compilation

abbrev pub fixed_of : FixedCompiler → Fixed
fixed_of c = record {
  text = c.text.items;
  kind = c.kind;
  plusplus = c.plusplus;
  version = option_map string_bytes c.version;
  assembler = option_map string_bytes c.assembler;
  parsed = parsed_as c.reading (arguments_of c.parsed) (option_map string_bytes c.detail);
}

-- the text, where the input has contents
abbrev pub with_input : Bytes → Result Bytes FileError → Option Bytes
with_input text (Ok contents) = Some text
with_input text (Err e) = None

-- the text is printed where the input is a regular file, as it is seen from the working directory
abbrev pub fixed_text : Fixed → Bytes → Arguments → Bytes → List Variable → FileMap → Moment → Option Bytes
fixed_text fixed executable arguments cwd env_vars files moment = with_input fixed.text (contents_at files (components (join_path cwd arguments.input)))

abbrev pub fixed_compiler : Compiler Fixed
fixed_compiler = record {
  kind = λ fixed. fixed.kind;
  plusplus = λ fixed. fixed.plusplus;
  version = λ fixed. fixed.version;
  assembler_digest = λ fixed. fixed.assembler;
  parsed = λ fixed arguments cwd env_vars. fixed.parsed;
  prints = fixed_text;
}
