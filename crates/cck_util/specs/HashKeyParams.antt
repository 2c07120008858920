-- the value of a `HashKeyParams`
use Rattle.std.specs.Prelude.{map, string_bytes}
use Rattle.std.specs.Option.{option_map}
use Rattle.cck_path.specs.Bytes.{lists_of, variables_of}
use Rattle.cck_util.specs.Key.{Params}
use Rattle.cck_util.specs.declared.key.HashKeyParams.TheInside.{Inside}

-- the values of its fields, without their addresses
abbrev pub params_of : Inside → Params
params_of p = record {
  compiler_digest = p.compiler_digest.now;
  language = p.language;
  arguments = lists_of p.arguments.now;
  preprocessor_output = p.preprocessor_output.now;
  extra_hashes = map string_bytes p.extra_hashes.now;
  env_vars = variables_of p.env_vars.now;
  plusplus = p.plusplus;
  basedirs = lists_of p.basedirs.now;
  assembler_digest = option_map (λ d. d.now) p.assembler_digest;
}
