use Rattle.std.proofs.Common.{◌≡◌, ◌∙◌, ◌∷◌, [], ◌++◌, ◌+◌, map, take, sym, ap, subst, arith}
use Rattle.std.proofs.lemmas.Bool.{eqb-true}
use Rattle.std.proofs.lemmas.List.{map_more, take_all}
use Rattle.cck_strip.proofs.CommonLemmas.{AllBegin-first, AllBegin-more, AllEmpty-start, Common, Common-pass, when_none, when_some}
use Rattle.cck_strip.proofs.beginnings.common_beginning.Goals as goal
use Rattle.cck_strip.proofs.beginnings.common_beginning.Goals.{then-not-is_empty+in-None, then-not-is_empty+in-Some, else-not-is_empty}

pub loop-basedir-init : goal.loop-basedir-init
loop-basedir-init c = AllEmpty-start

pub loop-basedir-preserved : goal.loop-basedir-preserved
loop-basedir-preserved c =
    let basedir = c.basedir-item.result in
    let more : map (λ b. b.items) (take (c.loop-basedir.basedir-index + 1) c.args.basedirs.now)
    ≡ map (λ b. b.items) (take c.loop-basedir.basedir-index c.args.basedirs.now) ++ basedir.items ∷ [] =
    map_more (λ b. b.items) _ _ basedir c.loop-basedir-test.true
    ∙ ap (λ v. map (λ b. b.items) (take c.loop-basedir.basedir-index c.args.basedirs.now) ++ v.items ∷ []) (sym c.basedir-item.is) in
    elim c.if-not-is_empty.branch [
      | then-not-is_empty+in-None w ↦
          rw (more, w.common-is, ← w.deref.ensures.value)
          (AllBegin-first _ _ _ (when_none _ _ _ w.in-None.is c.loop-basedir.invariant))
      | then-not-is_empty+in-Some w ↦
          rw (more, w.common-is, ← w.deref-in-Some.ensures.value)
          (AllBegin-more _ _ _ _ (when_some _ _ _ _ w.in-Some.is c.loop-basedir.invariant)
          w.shared_len.ensures.within w.shared_len.ensures.within_others w.shared_len.ensures.shared)
      | else-not-is_empty w ↦
          rw (more, w.common-is) (Common-pass _ _ _ c.loop-basedir.invariant (let none = eqb-true basedir.len 0 (sym w.if-not-is_empty.ensures) in omega (arith, basedir.ok.0)))
    ]

pub returns : goal.returns
returns c =
    subst (λ l. Common (map (λ b. b.items) l) c.loop-basedir.common) (take_all _ _ c.loop-basedir-test.false) c.loop-basedir.invariant
