-- what a reading and a script are seen as
use Rattle.std.specs.Prelude.{List, map}
use Rattle.cck_command.specs.ScriptLines.{Reading}
use Rattle.cck_command.specs.ScriptLines as line
use Rattle.cck_command.specs.declared.script.Script.{Script}
use Rattle.cck_command.specs.declared.script.line.Reading as reading
use Rattle.cck_command.specs.declared.script.line.Reading.TheVariants as read
use Rattle.cck_script.specs.Lines.{Line}
use Rattle.cck_script.specs.Seen.{line_of}

abbrev pub reading_of : reading.Reading → Reading
reading_of read.Wrong = line.Wrong
reading_of read.Skipped = line.Skipped
reading_of (read.Says c) = line.Says (line_of c)

-- the lines of a script that say something
abbrev pub lines_of : Script → List Line
lines_of script = map line_of script.commands.items
