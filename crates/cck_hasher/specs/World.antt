-- what the keys depend on beside a call: the hash, the zone, the options, the base directories, and what each compiler is and prints
use Rattle.std.specs.Prelude.{◌≡◌, List, Bool, Option, length}
use Rattle.cck_compiler.specs.Arguments.{Arguments}
use Rattle.cck_compiler.specs.Compiler.{Compiler}
use Rattle.cck_files.specs.FileMap.{FileMap}
use Rattle.cck_include.specs.Setting.{Setting}
use Rattle.cck_path.specs.Bytes.{Bytes}
use Rattle.cck_path.specs.Timestamp.{Moment}
use Rattle.cck_path.specs.Variables.{Variable}
use Rattle.cck_include.specs.declared.config.PreprocessorCacheModeConfig.{PreprocessorCacheModeConfig}
use Rattle.jiff.specs.Types.{TimeZone}
use Rattle.cck_hasher.specs.Call.{Call}

pub record World (V : Type 0) : Type 0 where
  pub hash : Bytes → Bytes
  pub zone : TimeZone
  pub config : PreprocessorCacheModeConfig
  pub basedirs : List Bytes
  pub plusplus : V → Bool
  pub assembler_digest : V → Option Bytes
  pub prints : V → Bytes → Arguments → Bytes → List Variable → FileMap → Moment → Option Bytes

-- the hash gives 32 bytes
abbrev pub HasSize : (Bytes → Bytes) → Type 0
HasSize hash = (fed : Bytes) → length (hash fed) ≡ 32

-- how a call's files are judged
abbrev pub setting : {V : Type 0} → World V → Call V → Setting
setting w c = record { hash = w.hash; config = w.config; moment = c.moment; zone = w.zone; variables = c.request.env_vars }

-- these values as a world
abbrev pub world_of : {V : Type 0} → (Bytes → Bytes) → Compiler V → TimeZone → PreprocessorCacheModeConfig → List Bytes → World V
world_of hash compiler zone config basedirs = record {
  hash = hash;
  zone = zone;
  config = config;
  basedirs = basedirs;
  plusplus = compiler.plusplus;
  assembler_digest = compiler.assembler_digest;
  prints = compiler.prints;
}
