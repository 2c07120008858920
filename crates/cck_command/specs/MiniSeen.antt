-- what the program's values are seen as
use Rattle.std.specs.Prelude.{string_bytes}
use Rattle.cck_command.specs.MiniPrinted as seen
use Rattle.cck_command.specs.declared.mini.macros.Macros.{Macros}

abbrev pub macros_seen : Macros → seen.Macros
macros_seen m = record { date = string_bytes m.date; time = string_bytes m.time; timestamp = string_bytes m.timestamp }
