use Rattle.cck_path.specs.Bytes.{lists_of}
use Rattle.jiff.specs.Words.{plain_zone}
use Rattle.cck_hasher.specs.World.{world_of}
use Rattle.cck_command.specs.MiniCompiler.{mini_compiler}
use Rattle.cck_command.specs.Run.{armed_by}
use Rattle.cck_script.specs.Calls.{script_calls}
use Rattle.cck_command.specs.Script.{zone_of}
use Rattle.cck_command.specs.ScriptSeen.{lines_of}
use Rattle.cck_include.specs.Config.{activated}
use Rattle.cck_explain.proofs.NotedLemmas.{SoFar}
use Rattle.cck_explain.proofs.script_calls.explain_calls.Given as goal

-- the calls so far are noted
abbrev pub invariant-loop-call : goal.invariant-loop-call
invariant-loop-call g l =
    let lines = lines_of l.fn.script in
    SoFar g.H.HashState.hash (zone_of lines) (world_of g.H.HashState.hash mini_compiler (plain_zone l.context.zone) activated (lists_of l.context.basedirs.items))
    l.compiler (script_calls lines) (armed_by lines) l.store l.number l.listing.items l.call-iterator.rest.items
