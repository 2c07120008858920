use Rattle.std.proofs.Common.{◌≡◌, ◌++◌, ◌∷◌, [], ◌∙◌, ap, append-nil, append_assoc, map, refl, subst, sym, take}
use Rattle.std.specs.List.{AllZip, flat_map}
use Rattle.cck_command.proofs.FollowedLemmas.{zip_joined}
use Rattle.cck_files.proofs.CallsLemmas.{keeps_all, keeps_itself}
use Rattle.cck_include.specs.JudgeContext.{setting_of}
use Rattle.cck_path.specs.Bytes.{Bytes}
use Rattle.cck_explain.specs.Note.{IsCallNoted, opening_lines, store_call}
use Rattle.cck_explain.proofs.JudgedLemmas.{calm_after, lines_on, opening_appended, taken_more}
use Rattle.cck_explain.proofs.note.push_note.Goals as goal

pub loop-call-init : goal.loop-call-init
loop-call-init g c = record {
  keeps = keeps_itself c.args.files.now;
  lines = λ calm. (
    [],
    tt,
    opening_appended c.args.lines.now.items _ _ _ _ c.key_of.result.now c.not_asked_line.result.now (map store_call c.args.calls.now) c.in_ok-extend_from_slice.ensures.items
        c.in_ok-extend_from_slice-2.ensures.items c.in_ok-push.ensures.items c.in_ok-extend_from_slice-3.ensures.items c.key_of.ensures c.not_asked_line.ensures,
  );
}

pub loop-call-preserved : goal.loop-call-preserved
loop-call-preserved g c =
    let F = g.F.Files in
    let s = setting_of g.H.HashState.hash c.args.context.now in
    let old = F.file_map c.args.files.now in
    let calls = c.args.calls.now in
    let x = c.call-item.result in
    record {
      keeps = keeps_all _ _ _ c.loop-call.invariant.keeps c.in_ok-push_call.ensures.keeps;
      lines = λ calm.
          let before = c.loop-call.invariant.lines calm in
          let one = c.in_ok-push_call.ensures.lines (calm_after F.file_map F.faults F.is_quiet c.args.files.now c.loop-call.files c.loop-call.invariant.keeps calm) in
          let is = subst (λ m. IsCallNoted s m (store_call x) one.0) c.loop-call.invariant.keeps.same_map one.1 in
          let so_far = map store_call (take c.loop-call.call-index calls) in (
            before.0 ++ one.0 ∷ [],
            rw (taken_more store_call calls c.loop-call.call-index x c.loop-call-test.true c.call-item.is) (zip_joined (IsCallNoted s old) so_far (store_call x ∷ []) before.0 (one.0 ∷ []) before.1 (is, tt)),
            lines_on (λ (t : Bytes). t) before.0 one.0 (c.args.lines.now.items ++ opening_lines (map store_call calls)) c.loop-call.lines.items _ before.2 one.2,
          );
    }
