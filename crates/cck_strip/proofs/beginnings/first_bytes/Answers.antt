use Rattle.std.proofs.Common.{◌≡◌, ◌∙◌, ◌∷◌, [], ◌++◌, ◌+◌, map, take, get_or, length-set, sym, ap, subst, arith}
use Rattle.std.proofs.lemmas.Bool.{eqb-true}
use Rattle.std.proofs.lemmas.List.{map_more, take_all}
use Rattle.cck_strip.specs.Beginnings.{FirstsMarked}
use Rattle.cck_strip.proofs.SoughtLemmas.{FirstsMarked-more, FirstsMarked-pass}
use Rattle.cck_strip.proofs.beginnings.first_bytes.Goals as goal
use Rattle.cck_strip.proofs.beginnings.first_bytes.Goals.{then-not-is_empty, else-not-is_empty}

pub loop-basedir-preserved : goal.loop-basedir-preserved
loop-basedir-preserved c =
    let basedir = c.basedir-item.result in
    let marked = c.loop-basedir.invariant.marked in
    let size = c.loop-basedir.invariant.size in
    let more : map (λ b. b.items) (take (c.loop-basedir.basedir-index + 1) c.args.basedirs.now)
    ≡ map (λ b. b.items) (take c.loop-basedir.basedir-index c.args.basedirs.now) ++ basedir.items ∷ [] =
    map_more (λ b. b.items) _ _ basedir c.loop-basedir-test.true
    ∙ ap (λ v. map (λ b. b.items) (take c.loop-basedir.basedir-index c.args.basedirs.now) ++ v.items ∷ []) (sym c.basedir-item.is) in
    elim c.if-not-is_empty.branch [
      | then-not-is_empty w ↦
          let first : w.first_byte.result ≡ get_or basedir.items 0 0 = w.first_byte.ensures.value ∙ ap (λ l. get_or l 0 0) w.deref.ensures.value in
          let fits = w.first_byte.ensures.within in
          record {
            size = rw w.is_first-is (length-set _ _ _ ∙ size);
            marked = rw (more, w.is_first-is, first) (FirstsMarked-more _ _ _ marked (let here = first in omega arith));
          }
      | else-not-is_empty w ↦
          record {
            size = rw w.is_first-is size;
            marked = rw (more, w.is_first-is) (FirstsMarked-pass _ _ _ marked (let none = eqb-true basedir.len 0 (sym w.if-not-is_empty.ensures) in omega (arith, basedir.ok.0)));
          }
    ]

pub returns : goal.returns
returns c =
    subst (λ l. FirstsMarked (map (λ b. b.items) l) c.loop-basedir.is_first) (take_all _ _ c.loop-basedir-test.false) c.loop-basedir.invariant.marked
