-- what a line of a script is
use Rattle.std.specs.Prelude.{ℕ, ◌==◌, List, [], ◌∷◌, if◌then◌else◌, codes, Option, Some, None}
use Rattle.std.specs.Option.{option_map}
use Rattle.std.specs.Str.{bytes_eq}
use Rattle.cck_command.specs.ScriptNumbers.{file_time, ordinal, time, zone_offset}
use Rattle.cck_command.specs.ScriptWords.{and_then, last_text, next_word, words}
use Rattle.cck_path.specs.Bytes.{Bytes}
use Rattle.cck_path.specs.Timestamp.{Moment}
use Rattle.cck_script.specs.Lines.{Line, Zone, Basedir, StoreForget, StoreFail, File, Folder, Gone, Variable, Clear, Compile, Recache}

-- what a line is: wrong, skipped, or one that says something
pub data Reading : Type 0 where
  Wrong : Reading
  Skipped : Reading
  Says : Line → Reading

-- this, if the line ends here
abbrev pub ended : Option Bytes → Line → Option Line
ended None line = Some line
ended (Some rest) line = None

-- `zone S`
abbrev pub zone_line : Option Bytes → Option Line
zone_line rest = and_then (next_word rest) (λ w. and_then (zone_offset w.0) (λ offset. ended w.1 (Zone offset)))

-- `basedir TEXT`
abbrev pub basedir_line : Option Bytes → Option Line
basedir_line rest = option_map Basedir (last_text rest)

abbrev pub store_action : Bytes → ℕ → Option Line
store_action kind n =
    if bytes_eq kind (codes "forget") then Some (StoreForget n)
    else (if bytes_eq kind (codes "fail") then Some (StoreFail n) else None)

-- `store forget N`, `store fail N`
abbrev pub store_line : Option Bytes → Option Line
store_line rest = and_then (next_word rest) (λ kind. and_then (next_word kind.1) (λ w.
    and_then (ordinal w.0) (λ n. and_then (store_action kind.0 n) (ended w.1))))

-- `file PATH MODIFIED CHANGED TEXT`
abbrev pub file_line : Option Bytes → Option Line
file_line rest = and_then (next_word rest) (λ path. and_then (next_word path.1) (λ modified. and_then (next_word modified.1) (λ changed.
    and_then (file_time modified.0) (λ m. and_then (file_time changed.0) (λ c. option_map (File path.0 m c) (last_text changed.1))))))

-- `dir PATH`
abbrev pub folder_line : Option Bytes → Option Line
folder_line rest = and_then (next_word rest) (λ path. ended path.1 (Folder path.0))

-- `gone PATH`
abbrev pub gone_line : Option Bytes → Option Line
gone_line rest = and_then (next_word rest) (λ path. ended path.1 (Gone path.0))

-- `var NAME TEXT`
abbrev pub variable_line : Option Bytes → Option Line
variable_line rest = and_then (next_word rest) (λ name. option_map (Variable name.0) (last_text name.1))

-- `MOMENT INPUT ARG..`, after `compile` and `recache`
abbrev pub call_line : Option Bytes → Option (Moment × List Bytes)
call_line rest = and_then (next_word rest) (λ w. and_then (time w.0) (λ moment. option_map (λ arguments. (moment, arguments)) (words w.1)))

-- what a line of this name says
unfoldable pub command_line : Bytes → Option Bytes → Option Line
command_line name rest =
    if bytes_eq name (codes "zone") then zone_line rest
    else (if bytes_eq name (codes "basedir") then basedir_line rest
    else (if bytes_eq name (codes "store") then store_line rest
    else (if bytes_eq name (codes "file") then file_line rest
    else (if bytes_eq name (codes "dir") then folder_line rest
    else (if bytes_eq name (codes "gone") then gone_line rest
    else (if bytes_eq name (codes "var") then variable_line rest
    else (if bytes_eq name (codes "clear") then ended rest Clear
    else (if bytes_eq name (codes "compile") then option_map (λ a. Compile a.0 a.1) (call_line rest)
    else (if bytes_eq name (codes "recache") then option_map (λ a. Recache a.0 a.1) (call_line rest) else None)))))))))

abbrev pub said : Option Line → Reading
said None = Wrong
said (Some line) = Says line

-- what a line is, without the LF that ends it: skipped if it is empty or begins with `#`
unfoldable pub read : Bytes → Reading
read [] = Skipped
read (b ∷ bs) = if b == 35 then Skipped else said (and_then (next_word (Some (b ∷ bs))) (λ w. command_line w.0 w.1))
