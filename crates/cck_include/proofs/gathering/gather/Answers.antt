use Rattle.std.proofs.Common.{◌≡◌, None, Some, refl, sym, ap, ◌∙◌}
use Rattle.std.proofs.lemmas.Result.{err_from_is_err_and}
use Rattle.std.specs.String.{string_bytes}
use Rattle.std.proofs.lemmas.List.{map_push}
use Rattle.cck_files.proofs.CallsLemmas.{keeps_itself, keeps_all, rose_earlier}
use Rattle.cck_files.specs.Calls.{Rose}
use Rattle.cck_include.proofs.GatherLemmas.{gathered-push, missing_all}
use Rattle.cck_include.specs.Gathered.{gathered, gathered_include}
use Rattle.cck_include.specs.Include.{include_in, includes_in}
use Rattle.cck_include.specs.Errors.{IsMissing}
use Rattle.cck_include.proofs.gathering.gather.Goals as goal

pub loop-digest-init : goal.loop-digest-init
unfolding gathered
loop-digest-init g c = record { keeps = keeps_itself c.args.files.now; so_far = rw c.new-includes.ensures.items refl }

pub returns-in_err-include-clause-outcome : goal.returns-in_err-include-clause-outcome
returns-in_err-include-clause-outcome g c =
    let F = g.F.Files in
    let old = F.file_map c.args.files.now in
    let item = c.loop-digest-item.result in
    let R = Rose (F.faults c.loop-digest.files) (F.faults c.gathered_include.new.files) in
    let S = Rose (F.faults c.args.files.now) (F.faults c.gathered_include.new.files) in
    let p = err_from_is_err_and c.from_residual.result c.from_residual.ensures.1 in
    let there : IsMissing (gathered_include old c.args.moment (string_bytes item.0, item.1.items) ≡ None) R c.in_err-include.field-0.0 = rw (← c.deref.ensures, ← c.deref-in-loop-digest.ensures.value, ← c.loop-digest.invariant.keeps.same_map) c.in_err-include.ensures.outcome in
    rw (p.1, p.2) (missing_all old c.args.moment c.args.included.now c.loop-digest.digest-index item R S c.in_err-include.field-0.0 c.loop-digest-test.true c.loop-digest-item.is
    (rose_earlier (F.faults c.args.files.now) (F.faults c.loop-digest.files) (F.faults c.gathered_include.new.files) c.loop-digest.invariant.keeps.not_lower) there)

pub loop-digest-preserved : goal.loop-digest-preserved
loop-digest-preserved g c =
    let F = g.F.Files in
    let old = F.file_map c.args.files.now in
    let item = c.loop-digest-item.result in
    let there : gathered_include old c.args.moment (string_bytes item.0, item.1.items) ≡ Some (include_in c.in_ok-include.include) = rw (← c.deref.ensures, ← c.deref-in-loop-digest.ensures.value, ← c.loop-digest.invariant.keeps.same_map) c.in_ok-include.ensures.outcome in
    record {
      keeps = keeps_all c.args.files.now c.loop-digest.files c.gathered_include.new.files c.loop-digest.invariant.keeps c.in_ok-include.ensures.keeps;
      so_far = gathered-push old c.args.moment c.args.included.now c.loop-digest.digest-index item (includes_in c.loop-digest.includes.items) (include_in c.in_ok-include.include)
          c.loop-digest-test.true c.loop-digest-item.is c.loop-digest.invariant.so_far there
          ∙ ap Some (sym (rw c.in_ok-push.ensures.items (map_push include_in c.loop-digest.includes.items c.in_ok-include.include)));
    }
