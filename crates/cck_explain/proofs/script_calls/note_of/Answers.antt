use Rattle.std.proofs.Common.{ℕ, List, ◌++◌, ◌∙◌, ap, map, subst}
use Rattle.std.specs.Global.{Vec}
use Rattle.cck_include.specs.Setting.{setting_in}
use Rattle.cck_include.specs.Config.{activated}
use Rattle.cck_include.specs.declared.config.PreprocessorCacheModeConfig.{PreprocessorCacheModeConfig}
use Rattle.jiff.specs.Words.{plain_zone}
use Rattle.cck_explain.specs.Note.{AreCallsNoted, head_line, store_call}
use Rattle.cck_explain.proofs.script_calls.note_of.Goals as goal

pub returns-clause-note : goal.returns-clause-note
returns-clause-note g c = λ calm.
    let hash = g.H.HashState.hash in
    let made = c.args.made.now in
    let plain = plain_zone c.args.context.now.zone in
    let calls = map store_call c.deref-3.result.now in
    let one = c.in_ok-push_note.ensures calm in
    let activated_there =
    subst (λ (k : PreprocessorCacheModeConfig). AreCallsNoted (setting_in hash k made.moment plain c.deref-2.result.now) made.files.files calls one.0) c.activated.ensures one.1 in
    let noted = subst (λ (v : List (Vec ℕ × Vec ℕ)). AreCallsNoted (setting_in hash activated made.moment plain v) made.files.files calls one.0) c.deref-2.ensures.value activated_there in
    let head = c.in_ok-push_head.ensures ∙ ap (λ l. l ++ head_line c.args.number c.deref.result.now) c.new-note.ensures.items ∙ ap (head_line c.args.number) c.deref.ensures.value in
    (calls, one.0, noted, one.2 ∙ ap (λ l. l ++ one.0) head)
