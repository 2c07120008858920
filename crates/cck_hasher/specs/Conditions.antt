-- the conditions of a call, and the call and the world that they make with a hasher
use Rattle.std.specs.Prelude.{List, string_bytes}
use Rattle.cck_compiler.specs.Compiler.{Compiler}
use Rattle.cck_compiler.specs.Seen.{arguments_of}
use Rattle.cck_files.specs.FileMap.{FileMap}
use Rattle.cck_include.specs.Setting.{Setting}
use Rattle.cck_path.specs.Bytes.{Bytes, lists_of, variables_of}
use Rattle.cck_path.specs.Timestamp.{Moment}
use Rattle.cck_path.specs.Variables.{Variable}
use Rattle.cck_include.specs.declared.config.PreprocessorCacheModeConfig.{PreprocessorCacheModeConfig}
use Rattle.jiff.specs.Types.{TimeZone}
use Rattle.jiff.specs.Words.{plain_zone}
use Rattle.cck_hasher.specs.Call.{Call, Request}
use Rattle.cck_hasher.specs.World.{World, world_of}
use Rattle.cck_hasher.specs.declared.call.CacheControl.{CacheControl}
use Rattle.cck_hasher.specs.declared.conditions.Conditions.{Conditions}
use Rattle.cck_hasher.specs.declared.hasher.CCompilerHasher.{CCompilerHasher}

-- the conditions of a call beside its request and its files
pub record Given : Type 0 where
  pub cwd : Bytes
  pub env_vars : List Variable
  pub moment : Moment
  pub zone : TimeZone
  pub config : PreprocessorCacheModeConfig
  pub basedirs : List Bytes
  pub control : CacheControl

abbrev pub given_by : Bytes → List Variable → Moment → TimeZone → PreprocessorCacheModeConfig → List Bytes → CacheControl → Given
given_by cwd env_vars moment zone config basedirs control = record {
  cwd = cwd;
  env_vars = env_vars;
  moment = moment;
  zone = zone;
  config = config;
  basedirs = basedirs;
  control = control;
}

abbrev pub given_of : Conditions → Given
given_of c = given_by c.cwd.now (variables_of c.vars.now) c.moment (plain_zone c.zone.now) c.config (lists_of c.basedirs.now) c.control

-- how files are judged under these conditions
abbrev pub setting_under : (Bytes → Bytes) → Given → Setting
setting_under hash given = record {
  hash = hash;
  config = given.config;
  moment = given.moment;
  zone = given.zone;
  variables = given.env_vars;
}

-- the world of a call
abbrev pub world_under : {V : Type 0} → (Bytes → Bytes) → Compiler V → Given → World V
world_under hash compiler given = world_of hash compiler given.zone given.config given.basedirs

-- the request of a hasher in a directory and under variables
abbrev pub request_of : {I V : Type 0} → (I → V) → CCompilerHasher I → Bytes → List Variable → Request V
request_of value hasher cwd env_vars = record {
  compiler = value hasher.compiler;
  executable = hasher.executable.items;
  executable_digest = string_bytes hasher.executable_digest;
  arguments = arguments_of hasher.parsed_args;
  cwd = cwd;
  env_vars = env_vars;
}

abbrev pub request_under : {I V : Type 0} → (I → V) → CCompilerHasher I → Given → Request V
request_under value hasher given = request_of value hasher given.cwd given.env_vars

-- the call of a hasher over files
abbrev pub call_under : {I V : Type 0} → (I → V) → FileMap → CCompilerHasher I → Given → Call V
call_under value files hasher given = record {
  request = request_under value hasher given;
  files = files;
  moment = given.moment;
  control = given.control;
}
