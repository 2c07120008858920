use Rattle.std.proofs.Common.{◌-◌, ◌↔◌, Bool, IsTrue, arith, codes, drop, length, sym, subst, take}
use Rattle.std.proofs.lemmas.List.{take_rest}
use Rattle.cck_digest.specs.TimeMacros.{Has}
use Rattle.cck_digest.proofs.FinderLemmas.{Has-found}
use Rattle.cck_cache_text.proofs.LeftLemmas.{is_left}
use Rattle.cck_cache_text.proofs.left.is_left_at.Goals as goal

pub returns : goal.returns
returns c =
    let path = c.args.path.now in
    let place = c.args.place in
    let rest = take (length path - place) (drop place path) in
    let finds : IsTrue c.is_some.result ↔ Has rest (codes "/../") =
    subst (λ (b : Bool). IsTrue b ↔ Has rest (codes "/../")) (sym c.is_some.ensures) (Has-found rest (codes "/../") c.find.result c.find.ensures)
    in
    is_left path rest place c.is_some.result (omega (arith, c.if-place-eq0.false)) c.requires c.if-path-place-ne47.false (take_rest path place) finds
