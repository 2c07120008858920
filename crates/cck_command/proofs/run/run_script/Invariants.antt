use Rattle.std.proofs.Common.{[], map}
use Rattle.cck_path.specs.Bytes.{lists_of}
use Rattle.jiff.specs.Words.{plain_zone}
use Rattle.cck_command.specs.Script.{zone_of}
use Rattle.cck_command.specs.ScriptSeen.{lines_of}
use Rattle.cck_script.specs.Seen.{line_of}
use Rattle.cck_hasher.specs.World.{world_of}
use Rattle.cck_include.specs.Config.{activated}
use Rattle.cck_command.specs.Made.{AreMade}
use Rattle.cck_command.specs.MiniCompiler.{mini_compiler}
use Rattle.cck_command.specs.Run.{armed_by}
use Rattle.cck_command.proofs.FollowedLemmas.{AreFollowed}
use Rattle.cck_command.proofs.run.run_script.Given as goal

-- the calls of the lines so far are made
abbrev pub invariant-loop-command : goal.invariant-loop-command
invariant-loop-command g l =
    let lines = lines_of l.fn.script in
    let world = world_of g.H.HashState.hash mini_compiler (plain_zone l.context.zone) activated (lists_of l.context.basedirs.items) in
    AreFollowed (λ asked. AreMade g.H.HashState.hash (zone_of lines) world asked (armed_by lines) l.store [] l.printed.items) lines
    (map line_of l.command-iterator.rest.items) l.surroundings
