use Rattle.std.proofs.Common.{◌≡◌, ◌∙◌, [], refl, rules, subst, sym}
use Rattle.std.specs.List.{AllZip}
use Rattle.cck_command.proofs.MadeLemmas.{compiler_in, ran}
use Rattle.cck_command.specs.Made.{IsReady}
use Rattle.cck_command.specs.Run.{armed_by}
use Rattle.cck_script.specs.Calls.{script_calls}
use Rattle.cck_command.specs.Script.{zone_of}
use Rattle.cck_command.specs.ScriptSeen.{lines_of}
use Rattle.cck_explain.proofs.NotedLemmas.{all_noted, none_noted, noted_in, one_more}
use Rattle.cck_explain.proofs.script_calls.explain_calls.Goals as goal

pub loop-call-init : goal.loop-call-init
loop-call-init g c =
    let lines = lines_of c.args.script in
    let start : c.new-store.result ≡ armed_by lines = search rules in
    record {
      front = [];
      number_is = refl;
      back = script_calls lines;
      split = refl;
      ready = subst (AllZip (IsReady c.in_ok-compiler.compiler) (script_calls lines)) (sym c.into_iter-call-iterator.ensures.into_iter_gives.0) c.in_ok-calls.ensures;
      noted = rw (start, c.new-listing.ensures.items) (none_noted g.H.HashState.hash (zone_of lines) _ (armed_by lines));
    }

pub loop-call-preserved : goal.loop-call-preserved
loop-call-preserved g c =
    let hash = g.H.HashState.hash in
    let lines = lines_of c.args.script in
    let of = compiler_in hash (zone_of lines) _ _ (search rules) c.in_ok-compiler.ensures in
    one_more hash (zone_of lines) _ c.in_ok-compiler.compiler (script_calls lines) (armed_by lines) _ _ _ _ _ _ _ _ _ c.loop-call.invariant
    c.in-Some-call.ensures.steps.0 c.saturating_add-number.ensures
    (λ front asked ready counts before. c.in_ok-explain_call.ensures (zone_of lines) c.in_ok-compiler.compiler front asked (armed_by lines) of ready counts before)

pub returns : goal.returns
returns g c =
    let hash = g.H.HashState.hash in
    let lines = lines_of c.args.script in
    let zone = rw c.in-Some.is at c.zone_at.ensures.zone in
    let noted = all_noted hash (zone_of lines) _ c.in_ok-compiler.compiler (script_calls lines) (armed_by lines) _ _ _ c.loop-call.call-iterator.rest.items
    (sym (c.loop-call.call-iterator.rest.ok.0) ∙ c.in-None.ensures.steps.0) c.loop-call.invariant in
    record {
      call_results = noted.call_results;
      ran = ran hash lines _ zone.0 _ _ _ g.met.H.HashState.length_hash (zone.1 ∙ (search rules)) zone.2 c.in_ok-options.ensures.basedirs
          (record { done = noted.done; call_results = noted.call_results; calls = noted.calls; run = noted.run; printed_are = refl });
      zone = zone.0;
      zone_is = zone.1 ∙ (search rules);
      done = noted.done;
      calls = noted.calls;
      notes = noted.notes;
      each = noted_in hash _ _ _ _ noted.done noted.notes zone.2 c.in_ok-options.ensures.basedirs noted.each;
      count = noted.count;
      listed = noted.listed;
    }
