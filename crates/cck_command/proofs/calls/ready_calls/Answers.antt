use Rattle.std.proofs.Common.{◌∙◌, [], ap, map, sym}
use Rattle.cck_script.specs.Calls.{calls_after}
use Rattle.cck_command.specs.ScriptSeen.{lines_of}
use Rattle.cck_script.specs.Seen.{line_of}
use Rattle.cck_command.proofs.FollowedLemmas.{none_left, one_line_more}
use Rattle.cck_command.proofs.calls.ready_calls.Goals as goal

pub loop-command-init : goal.loop-command-init
loop-command-init c = record {
  earlier = [];
  asked = [];
  after = c.in_ok-surroundings.ensures;
  split = ap (calls_after []) (sym (ap (map line_of) c.into_iter-command-iterator.ensures.into_iter_gives.0 ∙ c.into_commands-command-items.ensures));
  of_asked = rw c.new-calls.ensures.items tt;
}

pub loop-command-preserved : goal.loop-command-preserved
loop-command-preserved c =
    one_line_more _ _ (lines_of c.args.script) _ _ _ _ _ c.loop-command.invariant
    (ap (map line_of) c.in-Some.ensures.steps.0)
    c.in_ok-follow.ensures.after
    c.in_ok-push_call.ensures

pub returns : goal.returns
returns c =
    none_left _ (lines_of c.args.script) c.loop-command.command-iterator.rest.items _
    (sym (c.loop-command.command-iterator.rest.ok.0) ∙ c.in-None.ensures.steps.0) c.loop-command.invariant
