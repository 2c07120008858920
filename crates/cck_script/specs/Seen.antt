-- what a command is seen as
use Rattle.cck_path.specs.Bytes.{lists_of}
use Rattle.cck_script.specs.Lines.{Line}
use Rattle.cck_script.specs.Lines as line
use Rattle.cck_script.specs.declared.command.Command.{Command}
use Rattle.cck_script.specs.declared.command.Command.TheVariants as command

-- what a command says
abbrev pub line_of : Command → Line
line_of (command.Zone offset) = line.Zone offset
line_of (command.Basedir text) = line.Basedir text.items
line_of (command.StoreForget n) = line.StoreForget n
line_of (command.StoreFail n) = line.StoreFail n
line_of (command.File path modified changed contents) = line.File path.items modified changed contents.items
line_of (command.Folder path) = line.Folder path.items
line_of (command.Gone path) = line.Gone path.items
line_of (command.Variable name value) = line.Variable name.items value.items
line_of command.Clear = line.Clear
line_of (command.Compile moment arguments) = line.Compile moment (lists_of arguments.items)
line_of (command.Recache moment arguments) = line.Recache moment (lists_of arguments.items)
