-- compilers that the caller runs
use Rattle.std.specs.Prelude.{List, Bool, Option, None, string_bytes}
use Rattle.std.specs.Option.{option_map}
use Rattle.cck_compiler.specs.Arguments.{Arguments}
use Rattle.cck_compiler.specs.Compiler.{Compiler, NotCompilation}
use Rattle.cck_compiler.specs.declared.compiler.CCompilerKind.{CCompilerKind}
use Rattle.cck_files.specs.FileMap.{FileMap}
use Rattle.cck_path.specs.Bytes.{Bytes}
use Rattle.cck_path.specs.Timestamp.{Moment}
use Rattle.cck_path.specs.Variables.{Variable}
use Rattle.c_cache_keys.specs.declared.compiler.ExternalCompiler.{ExternalCompiler}

-- what keys take of such a compiler; no text is part of it
pub record External : Type 0 where
  pub kind : CCompilerKind
  pub plusplus : Bool
  pub version : Option Bytes
  pub assembler_digest : Option Bytes

abbrev pub external_of : ExternalCompiler → External
external_of c = record {
  kind = c.kind;
  plusplus = c.plusplus;
  version = option_map string_bytes c.version;
  assembler_digest = option_map string_bytes c.assembler_digest;
}

-- what a preprocessor prints, if it prints anything: by its compiler, the path of the executable, the arguments, the working directory, the
-- variables, the files and the call time
abbrev pub Prints : Type 0
Prints = External → Bytes → Arguments → Bytes → List Variable → FileMap → Moment → Option Bytes

-- the compiler whose preprocessor prints this
abbrev pub external_compiler : Prints → Compiler External
external_compiler prints = record {
  kind = λ v. v.kind;
  plusplus = λ v. v.plusplus;
  version = λ v. v.version;
  assembler_digest = λ v. v.assembler_digest;
  parsed = λ v words cwd env_vars. NotCompilation;
  prints = prints;
}

-- nothing is printed
abbrev pub no_text : Prints
no_text v executable arguments cwd env_vars files moment = None
