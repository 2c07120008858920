-- the small compiler
use Rattle.std.specs.Prelude.{ℤ, List, [], ◌∷◌, false, nat_eq, None, codes, if◌then◌else◌}
use Rattle.std.specs.List.{ends_with}
use Rattle.cck_compiler.specs.Compiler.{Compilation, Compiler, NotCompilation, Parsed}
use Rattle.cck_compiler.specs.Arguments.{Arguments, Output, only_input}
use Rattle.cck_compiler.specs.declared.compiler.CCompilerKind.TheVariants.{Gcc}
use Rattle.cck_path.specs.Bytes.{Bytes}
use Rattle.cck_command.specs.MiniPrinted.{printed_input}
use Rattle.cck_util.specs.declared.language.Language.{Language}
use Rattle.cck_util.specs.declared.language.Language.TheVariants as language

-- the language of an input: preprocessed C if it ends in `.i`, and else C
abbrev pub language_of : Bytes → Language
language_of input = if ends_with nat_eq input (codes ".i") then language.CPreprocessed else language.C

-- the one output of every command line
abbrev pub outputs : List Output
outputs = record { name = codes "obj"; path = codes "out.o"; optional = false } ∷ []

-- a command line with an input and arguments, and nothing else
abbrev pub compilation_of : Bytes → List Bytes → Arguments
compilation_of input arguments = record (only_input input (language_of input)) { outputs = outputs; common_args = arguments }

-- what a command line is parsed as: its first argument is the input
abbrev pub parsed : List Bytes → Parsed
parsed [] = NotCompilation
parsed (input ∷ arguments) = Compilation (compilation_of input arguments)

-- the compiler, seen as the offset of its zone
abbrev pub mini_compiler : Compiler ℤ
mini_compiler = record {
  kind = λ zone. Gcc;
  plusplus = λ zone. false;
  version = λ zone. None;
  assembler_digest = λ zone. None;
  parsed = λ zone arguments cwd variables. parsed arguments;
  prints = λ zone executable arguments cwd variables files moment. printed_input zone moment files cwd arguments.input;
}
