use Rattle.std.proofs.Common.{◌≡◌, ◌∙◌, [], ap, map, rules, sym}
use Rattle.cck_script.specs.Calls.{calls_after}
use Rattle.cck_command.specs.Script.{zone_of}
use Rattle.cck_command.specs.ScriptSeen.{lines_of}
use Rattle.cck_script.specs.Seen.{line_of}
use Rattle.cck_command.specs.Run.{armed_by}
use Rattle.cck_command.proofs.FollowedLemmas.{none_left, one_line_more}
use Rattle.cck_command.proofs.MadeLemmas.{compiler_in, made_joined, none_made, ran}
use Rattle.cck_command.proofs.run.run_script.Goals as goal

pub loop-command-init : goal.loop-command-init
loop-command-init g c =
    let lines = lines_of c.args.script in
    let start : c.store_of-store.result ≡ armed_by lines = search rules in
    record {
      earlier = [];
      asked = [];
      after = c.in_ok-surroundings.ensures;
      split = ap (calls_after []) (sym (ap (map line_of) c.into_iter-command-iterator.ensures.into_iter_gives.0 ∙ c.into_commands-command-items.ensures));
      of_asked = rw (start, c.new-printed.ensures.items) (none_made g.H.HashState.hash (zone_of lines) _ (armed_by lines) []);
    }

pub loop-command-preserved : goal.loop-command-preserved
loop-command-preserved g c =
    let hash = g.H.HashState.hash in
    let lines = lines_of c.args.script in
    one_line_more _ _ lines _ _ _ _ _ c.loop-command.invariant
    (ap (map line_of) c.in-Some-command.ensures.steps.0)
    c.in_ok-surroundings-2.ensures.after
    (λ earlier asked are made.
    made_joined hash (zone_of lines) _ asked _ _ _ _ [] _ _ made
    (c.in_ok-surroundings-2.ensures.made (zone_of lines) earlier (compiler_in hash (zone_of lines) _ _ (search rules) c.in_ok-compiler.ensures) are))

pub returns : goal.returns
returns g c =
    let lines = lines_of c.args.script in
    let zone = rw c.in-Some.is at c.zone_at.ensures.zone in
    ran g.H.HashState.hash lines _ zone.0 _ _ _ g.met.H.HashState.length_hash (zone.1 ∙ (search rules)) zone.2 c.in_ok-options.ensures.basedirs
    (none_left _ lines c.loop-command.command-iterator.rest.items _ (sym (c.loop-command.command-iterator.rest.ok.0) ∙ c.in-None.ensures.steps.0) c.loop-command.invariant)
