use Rattle.std.proofs.Common.{◌∙◌, ◌∷◌, ◌++◌, [], ap}
use Rattle.cck_path.specs.Bytes.{lists_of}
use Rattle.cck_script.specs.Calls.{call_after}
use Rattle.cck_command.proofs.MadeLemmas.{after_call, call_made, only_call}
use Rattle.cck_command.proofs.run.make_call.Goals as goal

pub returns-clause-after : goal.returns-clause-after
returns-clause-after g c = λ earlier are.
    after_call c.args.context.now.compiler (call_after earlier c.args.asked.now) c.in_ok-ready.ready c.in-Some.made (record { files = c.in-Some.made.files; variables = c.in-Some.made.vars; places = c.args.surroundings.places })
    (c.in_ok-ready.ensures.call earlier are.files are.no_faults are.unarmed are.variables_are) (rw c.in_ok-ready.ensures.vars are.places_are)
    (only_call c.in_ok-ready.ready c.in-Some.made _ _ _ _ _
    (c.deref_mut.ensures.value ∙ c.in_ok-push.ensures.items ∙ ap (λ l. l ++ c.in_ok-ready.ready ∷ []) c.new-calls.ensures.items)
    (c.in_ok-push.ensures.items ∙ ap (λ l. l ++ c.in_ok-ready.ready ∷ []) c.new-calls.ensures.items)
    c.in_ok-call_results.ensures.keeps c.in-Some.ensures.items)

pub returns-clause-made : goal.returns-clause-made
returns-clause-made g c = λ zone earlier of are.
    call_made g.H.HashState.hash zone _ c.activated-config.result (lists_of c.args.context.now.basedirs.items) (lists_of c.deref.result.now) c.args.context.now.compiler (call_after earlier c.args.asked.now)
    c.in_ok-ready.ready _ _ _ _ _ _ _ c.activated-config.ensures (ap lists_of c.deref.ensures.value) of (c.in_ok-ready.ensures.call earlier are.files are.no_faults are.unarmed are.variables_are)
    (c.deref_mut.ensures.value ∙ c.in_ok-push.ensures.items ∙ ap (λ l. l ++ c.in_ok-ready.ready ∷ []) c.new-calls.ensures.items)
    c.in_ok-call_results.ensures.keeps c.in_ok-call_results.ensures.run (rw c.deref-2.ensures.value at c.in_ok-add_result_lines.ensures)
