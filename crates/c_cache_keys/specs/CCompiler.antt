-- compilers with their executables
use Rattle.std.specs.Prelude.{◌≡◌, ◌++◌, true, Option, string_bytes}
use Rattle.std.specs.Option.{option_map, option_map_or}
use Rattle.cck_compiler.specs.Compiler.{CannotCache, Compilation, NotCompilation, Parsed}
use Rattle.cck_compiler.specs.Seen.{arguments_of}
use Rattle.cck_compiler.specs.ExtraFiles.{is_hip}
use Rattle.cck_compiler.specs.declared.compiler.CompilerArguments.{CompilerArguments}
use Rattle.cck_compiler.specs.declared.compiler.CompilerArguments.TheVariants as parsed
use Rattle.cck_digest.specs.Digest.{digest_text}
use Rattle.cck_files.specs.FileDigest.{digest_text_at}
use Rattle.cck_files.specs.FileMap.{FileMap}
use Rattle.cck_path.specs.Bytes.{Bytes}
use Rattle.cck_path.specs.Path.{Path}
use Rattle.c_cache_keys.specs.declared.c_compiler.CCompiler.{CCompiler}
use Rattle.cck_hasher.specs.declared.hasher.CCompilerHasher.{CCompilerHasher}

-- the hex digest of an executable: that of the node at its path or, of a compiler with a version, that of this hex digest and the version
unfoldable pub executable_text : (Bytes → Bytes) → Option Bytes → FileMap → Path → Option Bytes
executable_text hash version m p = option_map (λ text. option_map_or (λ v. digest_text hash (text ++ v)) version text) (digest_text_at hash m p)

-- the result of parsing a command line, as a value of the definitions
abbrev pub found_of : {I : Type 0} → CompilerArguments (CCompilerHasher I) → Parsed
found_of (parsed.Ok hasher) = Compilation (arguments_of hasher.parsed_args)
found_of (parsed.CannotCache reason detail) = CannotCache reason.now (option_map string_bytes detail)
found_of parsed.NotCompilation = NotCompilation

-- the compiler and the executable of a hasher are these
pub record IsOf {I V : Type 0} (value : I → V) (c : CCompiler I) (hasher : CCompilerHasher I) : Type 0 where
  pub compiler : value hasher.compiler ≡ value c.compiler
  pub executable : hasher.executable.items ≡ c.executable.items
  pub executable_digest : string_bytes hasher.executable_digest ≡ string_bytes c.executable_digest

-- a compilation is this compiler's
abbrev pub IsOfCompiler : {I V : Type 0} → (I → V) → CCompiler I → CompilerArguments (CCompilerHasher I) → Type 0
IsOfCompiler value c (parsed.Ok hasher) = IsOf value c hasher
IsOfCompiler value c (parsed.CannotCache reason detail) = Unit {0}
IsOfCompiler value c parsed.NotCompilation = Unit {0}

-- it is a compilation for HIP
abbrev pub IsHip : Parsed → Type 0
IsHip (Compilation a) = is_hip a.language ≡ true
IsHip (CannotCache reason detail) = ⊥
IsHip NotCompilation = ⊥
