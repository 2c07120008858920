use Rattle.std.proofs.Common.{ap, ◌∙◌}
use Rattle.cck_path.specs.Bytes.{variables_of}
use Rattle.cck_script.specs.Calls.{call_after}
use Rattle.cck_command.specs.Made.{IsReady}
use Rattle.cck_command.proofs.FollowedLemmas.{zip_pushed}
use Rattle.cck_command.proofs.calls.push_call.Goals as goal

pub returns : goal.returns
returns c = λ earlier asked are ready.
    zip_pushed (IsReady c.args.compiler.now) asked _ _ _ (call_after earlier c.in-Some.asked) c.in_ok-ready_call.field-0 (c.in-Some.ensures earlier) c.in_ok-push.ensures.items ready
    (c.in_ok-ready_call.ensures.call earlier (rw c.in_ok-files.ensures.same are.files) (rw c.in_ok-files.ensures.same are.no_faults) (rw c.in_ok-files.ensures.same are.unarmed)
    (c.in_ok-vars.ensures ∙ ap variables_of c.deref.ensures.value ∙ are.variables_are))
