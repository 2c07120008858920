-- what a `KeyRequest` says
use Rattle.std.specs.Prelude.{map, string_bytes}
use Rattle.cck_command.specs.Request.{KeyCommand}
use Rattle.cck_command.specs.declared.request.KeyRequest.TheInside.{Inside}

-- the values of its fields, without its address in memory
abbrev pub key_command_of : Inside → KeyCommand
key_command_of r = record {
  compiler_digest = r.compiler_digest.now;
  language = r.language;
  arguments = map string_bytes r.arguments.now;
}
