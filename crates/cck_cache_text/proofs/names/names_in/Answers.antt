use Rattle.std.proofs.Common.{rules, ◌≡◌, List, [], ◌∷◌, ◌++◌, inl, inr, refl, sym, ◌∙◌, subst}
use Rattle.std.proofs.lemmas.List.{append-nil}
use Rattle.cck_include.specs.Marks.{Mark, Name}
use Rattle.cck_include.specs.Markers.{Yields, mark_of, MarksLeft, Unread, unread_text}
use Rattle.cck_include.proofs.ItemLemmas.{gives_both}
use Rattle.cck_include.proofs.OneList.{one_list}
use Rattle.cck_cache_text.specs.Names.{AreNames}
use Rattle.cck_cache_text.proofs.NameLemmas.{again_added, again_known, here_named, other_added, other_known}
use Rattle.cck_cache_rules.proofs.ReadingLemmas.{equal}
use Rattle.cck_cache_text.proofs.names.names_in.Goals as goal
use Rattle.cck_cache_text.proofs.names.names_in.Goals.{in_default-via-in-Refusal-1, in_default-via-in-Name+else-ne}

pub loop-mark-init : goal.loop-mark-init
loop-mark-init c =
    let same : c.into_iter-mark-iterator.result ≡ unread_text c.args.text.now = c.into_iter-mark-iterator.ensures.into_iter_gives ∙ c.new-mark-items.ensures in
    ([], λ marks left. subst (λ (u : Unread). MarksLeft u marks) same left, c.in_ok-named.ensures, inl refl)

pub loop-mark-preserved-in-loop-mark : goal.loop-mark-preserved-in-loop-mark
loop-mark-preserved-in-loop-mark c =
    let done = c.loop-mark.invariant.0 in
    let name = c.in-Name.name.now in
    let step : Yields c.loop-mark.mark-iterator (Name name c.in-Name.is_system ∷ []) c.next.new.self = rw c.in-Name.is at c.in-Some.ensures.steps in (
      done ++ Name name c.in-Name.is_system ∷ [],
      gives_both (unread_text c.args.text.now) c.loop-mark.mark-iterator c.next.new.self done (Name name c.in-Name.is_system ∷ []) c.loop-mark.invariant.1 step,
      c.in_ok-add.ensures done c.loop-mark.invariant.2,
      inr (here_named done name c.in-Name.is_system),
    )

pub loop-mark-preserved : goal.loop-mark-preserved
loop-mark-preserved c =
    let done = c.loop-mark.invariant.0 in
    let mark = c.in-Some.mark in
    elim c.in_default.branch [
      | in_default-via-in-Refusal-1 w ↦ (
        done ++ mark_of mark ∷ [],
        gives_both (unread_text c.args.text.now) c.loop-mark.mark-iterator c.next.new.self done (mark_of mark ∷ []) c.loop-mark.invariant.1 c.in-Some.ensures.steps,
        other_added done mark (λ name s e. search rules) c.loop-mark.named c.loop-mark.invariant.2,
        elim c.loop-mark.invariant.3 [
          | inl e ↦ inl e
          | inr known ↦ inr (other_known done mark (λ name s e. search rules) c.loop-mark.last.now known)
        ],
      )
      | in_default-via-in-Name+else-ne w ↦ (
          let name = w.in-Name.name.now in
          let is_system = w.in-Name.is_system in
          let same : name ≡ c.loop-mark.last.now = equal name c.loop-mark.last.now w.if-ne.ensures in
          let step : Yields c.loop-mark.mark-iterator (Name name is_system ∷ []) c.next.new.self = rw w.in-Name.is at c.in-Some.ensures.steps in (
            done ++ Name name is_system ∷ [],
            gives_both (unread_text c.args.text.now) c.loop-mark.mark-iterator c.next.new.self done (Name name is_system ∷ []) c.loop-mark.invariant.1 step,
            again_added done name c.loop-mark.last.now is_system c.loop-mark.named same c.loop-mark.invariant.3 c.loop-mark.invariant.2,
            again_known done name c.loop-mark.last.now is_system c.loop-mark.invariant.3,
          )
          )
    ]

pub returns : goal.returns
returns c marks others =
    let done = c.loop-mark.invariant.0 in
    let all = c.loop-mark.invariant.1 [] c.in-None.ensures.steps.0 in
    subst (λ (ms : List Mark). AreNames ms c.loop-mark.named) (sym (append-nil done) ∙ one_list _ c.args.text.now (done ++ []) marks all others) c.loop-mark.invariant.2
