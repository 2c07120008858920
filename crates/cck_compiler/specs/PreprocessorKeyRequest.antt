-- the value of a `PreprocessorKeyRequest`
use Rattle.std.specs.Option.{option_map}
use Rattle.cck_path.specs.Bytes.{lists_of, variables_of}
use Rattle.cck_compiler.specs.PreprocessorKey.{RequestParts}
use Rattle.cck_compiler.specs.declared.preprocessor_key.PreprocessorKeyRequest.TheInside.{Inside}
use Rattle.cck_util.specs.Variables.{request_variables}

-- the values of its fields, without their addresses
abbrev pub parts_of : Inside → RequestParts
parts_of r = record {
  compiler_digest = r.compiler_digest.now;
  plusplus = r.plusplus;
  language = r.language;
  multiarch = r.multiarch;
  preprocessor_args = lists_of r.preprocessor_args.now;
  arch_args = lists_of r.arch_args.now;
  common_args = lists_of r.common_args.now;
  assembler_digest = option_map (λ d. d.now) r.assembler_digest;
  variables = request_variables (variables_of r.env_vars.now);
  input_file = r.input_file.now;
  directory = option_map (λ d. d.now) r.directory;
}
