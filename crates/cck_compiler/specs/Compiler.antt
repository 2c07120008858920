-- compilers, by their values
use Rattle.std.specs.Prelude.{List, Bool, Option}
use Rattle.cck_files.specs.FileMap.{FileMap}
use Rattle.cck_path.specs.Bytes.{Bytes}
use Rattle.cck_path.specs.Timestamp.{Moment}
use Rattle.cck_path.specs.Variables.{Variable}
use Rattle.cck_compiler.specs.Arguments.{Arguments}
use Rattle.cck_compiler.specs.declared.compiler.CCompilerKind.{CCompilerKind}

-- the result of parsing a command line: a compilation; one whose result can't be cached, for a reason and with a detail; or none
pub data Parsed : Type 0 where
  Compilation : Arguments → Parsed
  CannotCache : Bytes → Option Bytes → Parsed
  NotCompilation : Parsed

-- a compiler, by its value: what it says of itself, how it reads a command line in a directory under variables, and what
-- its preprocessor prints, if it prints anything, by the path of its executable, over files at a call time
pub record Compiler (V : Type 0) : Type 0 where
  pub kind : V → CCompilerKind
  pub plusplus : V → Bool
  pub version : V → Option Bytes
  pub assembler_digest : V → Option Bytes
  pub parsed : V → List Bytes → Bytes → List Variable → Parsed
  pub prints : V → Bytes → Arguments → Bytes → List Variable → FileMap → Moment → Option Bytes
