-- a script: its lines, and what holds for the whole run
use Rattle.std.specs.Prelude.{◌≡◌, ℕ, ◌+◌, ◌==◌, ℤ, pos, List, [], ◌∷◌, map, reverse, Option, Some, None, unwrap_or}
use Rattle.std.specs.List.{filter_map, slice_split}
use Rattle.cck_path.specs.Bytes.{Bytes}
use Rattle.cck_command.specs.ScriptLines.{Reading, Wrong, Skipped, Says, read}
use Rattle.cck_script.specs.Lines.{Line, Zone, Basedir, StoreForget, StoreFail, first_or}
use Rattle.cck_command.specs.declared.script.error.ScriptError.{ScriptError}
use Rattle.cck_command.specs.declared.script.error.ScriptError.TheVariants as error

-- what the lines of a text are. Each ends with an LF, or with the text. So a text that ends with an LF has an empty line after it, which is
-- skipped as each empty line is
abbrev pub readings : Bytes → List Reading
readings text = map read (slice_split (λ b. b == 10) text)

-- which line is the first wrong one, counted from a number on
abbrev pub wrong_from : ℕ → List Reading → Option ℕ
wrong_from n [] = None
wrong_from n (Wrong ∷ rest) = Some n
wrong_from n (Skipped ∷ rest) = wrong_from (n + 1) rest
wrong_from n (Says line ∷ rest) = wrong_from (n + 1) rest

-- which line is the first wrong one, counted from 1
unfoldable pub wrong_line : Bytes → Option ℕ
wrong_line text = wrong_from 1 (readings text)

abbrev pub line_in : Reading → Option Line
line_in Wrong = None
line_in Skipped = None
line_in (Says line) = Some line

-- the lines that say something
unfoldable pub commands_of : Bytes → List Line
commands_of text = filter_map line_in (readings text)

-- an error: a wrong line, before which none is wrong, or lack of memory
abbrev pub IsScriptError : Bytes → ScriptError → Type 0
IsScriptError text error.Memory = Unit {0}
IsScriptError text (error.Line n) = wrong_line text ≡ Some n

-- the value of the last of these lines that has one, or else the given value
abbrev pub last_or : {A : Type 0} → A → (Line → Option A) → List Line → A
last_or other says lines = first_or other says (reverse lines)

abbrev pub zone_of_command : Line → Option ℤ
zone_of_command (Zone offset) = Some offset
zone_of_command _ = None

abbrev pub forget_of_command : Line → Option (Option ℕ)
forget_of_command (StoreForget n) = Some (Some n)
forget_of_command _ = None

abbrev pub fail_of_command : Line → Option (Option ℕ)
fail_of_command (StoreFail n) = Some (Some n)
fail_of_command _ = None

abbrev pub basedir_of_command : Line → Option Bytes
basedir_of_command (Basedir text) = Some text
basedir_of_command _ = None

-- the offset of the run's zone: that of the last line `zone`, and 0 without one
abbrev pub zone_of : List Line → ℤ
zone_of lines = last_or (pos 0) zone_of_command lines

-- the run's base directories
abbrev pub basedirs_of : List Line → List Bytes
basedirs_of lines = filter_map basedir_of_command lines

-- the number of the store call that forgets: that of the last line that says one
abbrev pub forget_of : List Line → Option ℕ
forget_of lines = last_or None forget_of_command lines

-- the number of the store call that fails: that of the last line that says one
abbrev pub fail_of : List Line → Option ℕ
fail_of lines = last_or None fail_of_command lines
