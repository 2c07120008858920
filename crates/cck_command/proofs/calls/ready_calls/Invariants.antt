use Rattle.std.proofs.Common.{map}
use Rattle.std.specs.List.{AllZip}
use Rattle.cck_command.specs.ScriptSeen.{lines_of}
use Rattle.cck_script.specs.Seen.{line_of}
use Rattle.cck_command.specs.Made.{IsReady}
use Rattle.cck_command.proofs.FollowedLemmas.{AreFollowed}
use Rattle.cck_command.proofs.calls.ready_calls.Given as goal

-- the calls of the lines so far are ready
abbrev pub invariant-loop-command : goal.invariant-loop-command
invariant-loop-command l =
    AreFollowed (λ asked. AllZip (IsReady l.fn.compiler) asked l.calls.items) (lines_of l.fn.script)
    (map line_of l.command-iterator.rest.items) l.surroundings
