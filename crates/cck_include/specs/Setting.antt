-- settings of recorded digests and matches
use Rattle.std.specs.Prelude.{ℕ, List}
use Rattle.std.specs.Global.{Vec}
use Rattle.cck_path.specs.Bytes.{variables_of}
use Rattle.cck_path.specs.Timestamp.{Moment}
use Rattle.cck_path.specs.Variables.{Variable}
use Rattle.cck_include.specs.declared.config.PreprocessorCacheModeConfig.{PreprocessorCacheModeConfig}
use Rattle.jiff.specs.Types.{TimeZone}

-- what recorded digests and matches depend on, besides the files: the hash function, the options, the call time, the zone and the variables
pub record Setting : Type 0 where
  pub hash : List ℕ → List ℕ
  pub config : PreprocessorCacheModeConfig
  pub moment : Moment
  pub zone : TimeZone
  pub variables : List Variable

-- the setting of a caller's arguments
abbrev pub setting_in : (List ℕ → List ℕ) → PreprocessorCacheModeConfig → Moment → TimeZone → List (Vec ℕ × Vec ℕ) → Setting
setting_in hash config moment zone variables = record {
  hash = hash;
  config = config;
  moment = moment;
  zone = zone;
  variables = variables_of variables;
}
