-- the key of an object, for a caller that passes its parts as byte texts
use Rattle.std.specs.Prelude.{◌≡◌, ◌≢◌, ℕ, List, not, nat_eq, map, IsUtf8, IfSome, Option, Some, None, Result, Ok, Err, String, string_bytes, if◌then◌else◌}
use Rattle.std.specs.Global.{Vec}
use Rattle.std.specs.declared.alloc.Global.{Global}
use Rattle.sha2.specs.Sha256.{sha256}
use Rattle.cck_util.specs.Key.{Params, object_key}
use Rattle.cck_util.specs.Language.{language_name}
use Rattle.cck_util.specs.declared.language.Language.{Language}
use Rattle.cck_c.specs.Bytes.{AreUtf8, passed_variables, texts_of}
use Rattle.cck_c.specs.declared.bytes.Bytes.{Bytes}
use Rattle.cck_c.specs.declared.key.ParamsError.{ParamsError}
use Rattle.cck_c.specs.declared.key.ParamsError.TheVariants.{Memory, NoLanguage, NoText}
use Rattle.cck_c.specs.declared.key.KeyParams.{KeyParams}

-- the digest of the assembler, if one is passed
abbrev pub assembler_of : KeyParams → Option (List ℕ)
assembler_of p = if nat_eq p.has_assembler 0 then None else Some p.assembler_digest.now

-- the parts that are passed, in this language
abbrev pub passed_params : Language → KeyParams → Params
passed_params language p = record {
  compiler_digest = p.compiler_digest.now;
  language = language;
  arguments = texts_of p.arguments.now;
  preprocessor_output = p.text.now;
  extra_hashes = texts_of p.extra_hashes.now;
  env_vars = passed_variables p.variables.now;
  plusplus = not (nat_eq p.plusplus 0);
  basedirs = texts_of p.basedirs.now;
  assembler_digest = assembler_of p;
}

-- no language has this name
abbrev pub NamesNone : List ℕ → Type 0
NamesNone name = (language : Language) → language_name language ≢ name

-- each digest that is passed is UTF-8
pub record DigestsAreUtf8 (p : KeyParams) : Type 0 where
  pub compiler : IsUtf8 p.compiler_digest.now
  pub extra : AreUtf8 p.extra_hashes.now
  pub assembler : IfSome (assembler_of p) IsUtf8

-- the language has a name, and not every digest is UTF-8
abbrev pub LacksADigest : KeyParams → Type 0
LacksADigest p = (language : Language) × (language_name language ≡ p.language.now) × (DigestsAreUtf8 p → ⊥)

-- this is the key of the parts: their language has a name, and their digests are UTF-8
pub record IsKey (p : KeyParams) (key : List ℕ) : Type 0 where
  pub language : Language
  pub named : language_name language ≡ p.language.now
  pub digests : DigestsAreUtf8 p
  pub value : key ≡ object_key sha256 (passed_params language p)

-- the language of the parts has a name, and their digests are UTF-8
abbrev pub HasKey : KeyParams → Type 0
HasKey p = (language : Language) × (language_name language ≡ p.language.now) × DigestsAreUtf8 p

-- the result for these parts
abbrev pub MakesKey : KeyParams → Result (String Global) ParamsError → Type 0
MakesKey p (Ok key) = IsKey p (string_bytes key)
MakesKey p (Err Memory) = HasKey p
MakesKey p (Err NoLanguage) = NamesNone p.language.now
MakesKey p (Err NoText) = LacksADigest p

-- copies of these texts as strings
abbrev pub CopiesStrings : List Bytes → Result (Vec (String Global)) ParamsError → Type 0
CopiesStrings all (Ok strings) = (map string_bytes strings.items ≡ texts_of all) × AreUtf8 all
CopiesStrings all (Err Memory) = AreUtf8 all
CopiesStrings all (Err NoLanguage) = ⊥
CopiesStrings all (Err NoText) = AreUtf8 all → ⊥
