use Rattle.std.proofs.Common.{◌≡◌, ◌++◌, ◌∷◌, [], ◌∙◌, ap, append-nil, append_assoc, map, refl, reverse, rules, subst, sym}
use Rattle.std.specs.Prelude.{String}
use Rattle.std.specs.Global.{Vec}
use Rattle.std.specs.Iterator.Adapters.{rev_source}
use Rattle.std.specs.declared.alloc.Global.{Global}
use Rattle.cck_entry.specs.Results.{result_in}
use Rattle.cck_files.proofs.CallsLemmas.{keeps_all, keeps_itself}
use Rattle.cck_include.specs.Include.{includes_in}
use Rattle.cck_include.specs.JudgeContext.{setting_of}
use Rattle.cck_entry.specs.Known.{AreKnown}
use Rattle.cck_include.specs.declared.include.IncludeEntry.{IncludeEntry}
use Rattle.cck_explain.specs.Judged.{AreJudged, AreJudgedResults}
use Rattle.cck_explain.specs.Note.{result_lines}
use Rattle.cck_explain.proofs.JudgedLemmas.{calm_after, lines_on, one_result_judged, reverse-cons}
use Rattle.cck_explain.proofs.note.push_results.Goals as goal

pub loop-key-init : goal.loop-key-init
loop-key-init g c =
    let F = g.F.Files in
    let s = setting_of g.H.HashState.hash c.args.context.now in
    let all : rev_source c.into_iter-key-iterator.result ≡ c.args.results.now.entries = search rules in
    record {
      can = tt;
      finite = tt;
      keeps = keeps_itself c.args.files.now;
      known = c.new-known.ensures s (F.file_map c.args.files.now);
      rest = [];
      split = sym (append-nil (rev_source c.into_iter-key-iterator.result) ∙ all);
      lines = λ calm. ([], record { are = refl; each = tt }, sym (append-nil c.args.lines.now.items));
    }

pub loop-key-preserved : goal.loop-key-preserved
loop-key-preserved g c =
    let F = g.F.Files in
    let s = setting_of g.H.HashState.hash c.args.context.now in
    let old = F.file_map c.args.files.now in
    let same = c.loop-key.invariant.keeps.same_map in
    let right : AreKnown s (F.file_map c.loop-key.files) c.loop-key.known = rw same c.loop-key.invariant.known in
    let x : String Global × Vec IncludeEntry = (c.in-Some.key.now, c.in-Some.includes.now) in
    let rest = c.loop-key.invariant.rest in
    record {
      can = tt;
      finite = tt;
      keeps = keeps_all c.args.files.now c.loop-key.files c.push_result.new.files c.loop-key.invariant.keeps c.in_ok-push_result.ensures.keeps;
      known = subst (λ m. AreKnown s m c.push_result.new.known) same (c.in_ok-push_result.ensures.known right);
      rest = x ∷ rest;
      split = c.loop-key.invariant.split ∙ ap (λ l. l ++ rest) c.in-Some.ensures.steps ∙ append_assoc (rev_source c.next.new.self) (x ∷ []) rest;
      lines = λ calm.
          let before = c.loop-key.invariant.lines calm in
          let one = c.in_ok-push_result.ensures.lines (calm_after F.file_map F.faults F.is_quiet c.args.files.now c.loop-key.files c.loop-key.invariant.keeps calm) right in
          let found = one.0 in
          let is : AreJudged s old (includes_in c.in-Some.includes.now.items) found = rw (← c.deref.ensures.value) (subst (λ m. AreJudged s m (includes_in c.deref.result.now) found) same one.1) in
          let key = (result_in x).0 in (
            before.0 ++ (key, found) ∷ [],
            rw (reverse-cons (result_in x) (map result_in rest)) (one_result_judged s old (reverse (map result_in rest)) before.0 key (includes_in c.in-Some.includes.now.items) found before.1 is),
            lines_on result_lines before.0 (key, found) c.args.lines.now.items c.loop-key.lines.items _ before.2 (rw c.as_str.ensures.value at one.2),
          );
    }
