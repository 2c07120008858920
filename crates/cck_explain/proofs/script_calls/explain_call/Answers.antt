use Rattle.std.proofs.Common.{◌∙◌, ◌∷◌, ◌++◌, [], ap, map}
use Rattle.std.specs.List.{flat_map}
use Rattle.cck_path.specs.Bytes.{lists_of}
use Rattle.jiff.specs.Words.{plain_zone}
use Rattle.cck_hasher.specs.Seen.{result_of}
use Rattle.cck_hasher.specs.World.{world_of}
use Rattle.cck_command.proofs.MadeLemmas.{only_call}
use Rattle.cck_command.specs.MiniCompiler.{mini_compiler}
use Rattle.cck_command.specs.Run.{result_line}
use Rattle.cck_include.specs.Config.{activated}
use Rattle.cck_explain.proofs.NotedLemmas.{calm_call, made_call, note_made, one_noted}
use Rattle.cck_explain.proofs.script_calls.explain_call.Goals as goal

pub returns : goal.returns
returns g c = λ zone compiler front asked start of ready number before.
    let hash = g.H.HashState.hash in
    let basedirs = lists_of c.args.context.now.basedirs.items in
    let plain = plain_zone c.args.context.now.zone in
    let w = world_of hash mini_compiler plain activated basedirs in
    let results = map result_of c.in_ok-call_results.call_results.items in
    let printed = flat_map result_line results in
    let pushed = c.in_ok-push.ensures.items ∙ ap (λ l. l ++ c.args.call ∷ []) c.new-calls.ensures.items in
    let call = made_call hash zone plain c.activated-config.result basedirs (lists_of c.deref.result.now) compiler asked c.args.call _ _ _ _ results
    c.activated-config.ensures (ap lists_of c.deref.ensures.value) of ready (c.deref_mut.ensures.value ∙ pushed) c.in_ok-call_results.ensures.keeps c.in_ok-call_results.ensures.run in
    let after = only_call c.args.call c.in-Some.made _ _ _ _ _ (c.deref_mut.ensures.value ∙ pushed) pushed c.in_ok-call_results.ensures.keeps c.in-Some.ensures.items in
    let is_note = note_made hash plain basedirs c.args.call c.in-Some.made call.0 _ _ after (rw number at (c.in_ok-note.ensures.note (calm_call compiler asked c.args.call c.in-Some.made ready after))) in
    let appended = rw c.deref-3.ensures.value at c.in_ok-add_result_lines.ensures in
    rw c.note_of.ensures.store
    (one_noted hash zone w front asked start _ _ _ results c.args.listing.now.items c.in_ok-note.note.items _ before call.1 call.2 is_note
    (appended ∙ ap (λ l. l ++ printed) (c.in_ok-extend_from_slice.ensures.items ∙ ap (λ l. c.args.listing.now.items ++ l) c.deref-2.ensures.value)))
