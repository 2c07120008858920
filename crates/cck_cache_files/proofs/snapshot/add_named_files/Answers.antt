use Rattle.std.proofs.Common.{◌≡◌, ◌∙◌, List, [], ◌∷◌, ◌++◌, refl, sym, subst}
use Rattle.std.proofs.lemmas.List.{append-nil}
use Rattle.cck_include.specs.Marks.{Mark, Name}
use Rattle.cck_include.specs.Markers.{MarksLeft, Unread, Yields, mark_of, unread_text}
use Rattle.cck_include.proofs.ItemLemmas.{gives_both}
use Rattle.cck_include.proofs.OneList.{one_list}
use Rattle.cck_cache_files.specs.Snapshot.{SnapshotGrows, IsNamedFile}
use Rattle.cck_cache_files.proofs.SnapshotLemmas.{grows_by_name, grows_kept, grows_named, grows_not}
use Rattle.cck_cache_files.proofs.StateLemmas.{KeepsStates-trans}
use Rattle.cck_cache_files.proofs.snapshot.add_named_files.Goals as goal

pub loop-mark-init : goal.loop-mark-init
loop-mark-init g c =
    let same : c.into_iter-mark-iterator.result ≡ unread_text c.args.text.now = c.into_iter-mark-iterator.ensures.into_iter_gives ∙ c.new-mark-items.ensures in
    ([], λ marks left. subst (λ (u : Unread). MarksLeft u marks) same left, grows_not (IsNamedFile [] c.args.cwd.now) c.args.files.now, record { since = refl; states = λ path state e. e })

pub loop-mark-preserved-in_default : goal.loop-mark-preserved-in_default
loop-mark-preserved-in_default g c =
    let done = c.loop-mark.invariant.0 in
    let mark = mark_of c.in-Some.mark in (
      done ++ mark ∷ [],
      gives_both (unread_text c.args.text.now) c.loop-mark.mark-iterator c.next.new.self done (mark ∷ []) c.loop-mark.invariant.1 c.in-Some.ensures.steps,
      grows_named done mark c.args.cwd.now c.args.files.now c.loop-mark.files c.loop-mark.invariant.2,
      c.loop-mark.invariant.3,
    )

pub loop-mark-preserved-then-eq : goal.loop-mark-preserved-then-eq
loop-mark-preserved-then-eq g c =
    let done = c.loop-mark.invariant.0 in
    let mark = mark_of c.in-Some.mark in (
      done ++ mark ∷ [],
      gives_both (unread_text c.args.text.now) c.loop-mark.mark-iterator c.next.new.self done (mark ∷ []) c.loop-mark.invariant.1 c.in-Some.ensures.steps,
      grows_named done mark c.args.cwd.now c.args.files.now c.loop-mark.files c.loop-mark.invariant.2,
      c.loop-mark.invariant.3,
    )

pub loop-mark-preserved : goal.loop-mark-preserved
loop-mark-preserved g c =
    let done = c.loop-mark.invariant.0 in
    let name = c.in-Name.name.now in
    let is_system = c.in-Name.is_system in
    let step : Yields c.loop-mark.mark-iterator (Name name is_system ∷ []) c.next.new.self = rw c.in-Name.is at c.in-Some.ensures.steps in (
      done ++ Name name is_system ∷ [],
      gives_both (unread_text c.args.text.now) c.loop-mark.mark-iterator c.next.new.self done (Name name is_system ∷ []) c.loop-mark.invariant.1 step,
      grows_by_name done name is_system c.args.cwd.now c.args.files.now c.loop-mark.files c.add_named.new.files c.loop-mark.invariant.2 c.in_ok-add_named.ensures.named,
      KeepsStates-trans c.args.states.now c.loop-mark.states c.add_named.new.states c.loop-mark.invariant.3 c.add_named.ensures.kept,
    )

pub returns-clause-named : goal.returns-clause-named
returns-clause-named g c marks others =
    let done = c.loop-mark.invariant.0 in
    let all = c.loop-mark.invariant.1 [] c.in-None.ensures.steps.0 in
    let same : done ≡ marks = sym (append-nil done) ∙ one_list _ c.args.text.now (done ++ []) marks all others in
    grows_kept (IsNamedFile marks c.args.cwd.now) c.args.files.now c.loop-mark.files c.has_one.new.files
    (subst (λ (ms : List Mark). SnapshotGrows (IsNamedFile ms c.args.cwd.now) c.args.files.now c.loop-mark.files) same c.loop-mark.invariant.2) c.has_one.ensures

pub returns-clause-kept : goal.returns-clause-kept
returns-clause-kept g c = c.loop-mark.invariant.3

pub returns-in_err-add_named-clause-kept : goal.returns-in_err-add_named-clause-kept
returns-in_err-add_named-clause-kept g c = KeepsStates-trans c.args.states.now c.loop-mark.states c.add_named.new.states c.loop-mark.invariant.3 c.add_named.ensures.kept
