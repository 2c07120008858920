-- compilers whose preprocessor printed a given text
use Rattle.cck_compiler.specs.Compiler.{Compiler, NotCompilation}
use Rattle.cck_path.specs.Bytes.{Bytes}
use Rattle.std.specs.Prelude.{◌≡◌, List, Some}
use Rattle.cck_path.specs.Variables.{Variable}
use Rattle.cck_hasher.specs.Call.{Call, Request}
use Rattle.cck_hasher.specs.Conditions.{request_of}
use Rattle.cck_hasher.specs.declared.hasher.CCompilerHasher.{CCompilerHasher}
use Rattle.c_cache_keys.specs.External.{External, external_of}
use Rattle.c_cache_keys.specs.declared.compiler.ExternalCompiler.{ExternalCompiler}
use Rattle.c_cache_keys.specs.declared.text_compiler.TextCompiler.{TextCompiler}

-- a compiler, and the text that it printed
pub record WithText : Type 0 where
  pub external : External
  pub text : Bytes

abbrev pub with_text_of : TextCompiler → WithText
with_text_of c = record { external = external_of c.compiler.now; text = c.text.now }

-- what keys take of the compiler; the text is printed for each call
abbrev pub text_compiler : Compiler WithText
text_compiler = record {
  kind = λ v. v.external.kind;
  plusplus = λ v. v.external.plusplus;
  version = λ v. v.external.version;
  assembler_digest = λ v. v.external.assembler_digest;
  parsed = λ v words cwd env_vars. NotCompilation;
  prints = λ v executable arguments cwd env_vars files moment. Some v.text;
}

-- the same request and the same call, of the compiler with its text
abbrev pub request_with : Bytes → Request External → Request WithText
request_with text q = record {
  compiler = record { external = q.compiler; text = text };
  executable = q.executable;
  executable_digest = q.executable_digest;
  arguments = q.arguments;
  cwd = q.cwd;
  env_vars = q.env_vars;
}

abbrev pub call_with : Bytes → Call External → Call WithText
call_with text c = record { request = request_with text c.request; files = c.files; moment = c.moment; control = c.control }

-- a hasher's requests are those of the other one, with the text
abbrev pub IsTextHasher : CCompilerHasher ExternalCompiler → Bytes → CCompilerHasher TextCompiler → Type 0
IsTextHasher hasher text made =
    (cwd : Bytes) (env_vars : List Variable) → request_of with_text_of made cwd env_vars ≡ request_with text (request_of external_of hasher cwd env_vars)
