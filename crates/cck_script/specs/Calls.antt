-- the calls of a script
use Rattle.std.specs.Prelude.{List, [], ◌∷◌, ◌++◌, Bool, true, false, Option, Some, None}
use Rattle.std.specs.Option.{option_to_list}
use Rattle.cck_path.specs.Bytes.{Bytes, lists_of}
use Rattle.cck_path.specs.Timestamp.{Moment}
use Rattle.cck_script.specs.Lines.{Line, Compile, Recache}
use Rattle.cck_script.specs.declared.call.ScriptCall.{ScriptCall}

-- a call, and the lines before it from the last to the first
pub record ScriptCallValue : Type 0 where
  pub moment : Moment
  pub arguments : List Bytes
  pub is_recache : Bool
  pub earlier : List Line

-- the call that a line asks for
abbrev pub call_of_command : List Line → Line → Option ScriptCallValue
call_of_command earlier (Compile moment arguments) = Some (record { moment = moment; arguments = arguments; is_recache = false; earlier = earlier })
call_of_command earlier (Recache moment arguments) = Some (record { moment = moment; arguments = arguments; is_recache = true; earlier = earlier })
call_of_command earlier _ = None

-- the calls of lines that follow other lines
abbrev pub calls_after : List Line → List Line → List ScriptCallValue
calls_after earlier [] = []
calls_after earlier (line ∷ lines) = option_to_list (call_of_command earlier line) ++ calls_after (line ∷ earlier) lines

-- the calls of these lines, in order
abbrev pub script_calls : List Line → List ScriptCallValue
script_calls lines = calls_after [] lines

-- what the program's value of a call says, after these lines
abbrev pub call_after : List Line → ScriptCall → ScriptCallValue
call_after earlier c = record { moment = c.moment; arguments = lists_of c.arguments.now; is_recache = c.is_recache; earlier = earlier }
