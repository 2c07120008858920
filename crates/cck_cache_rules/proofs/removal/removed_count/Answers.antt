use Rattle.cck_cache_rules.proofs.RemovalLemmas.{none_fewer}
use Rattle.cck_cache_rules.proofs.removal.removed_count.Goals as goal

pub returns-in_default : goal.returns-in_default
returns-in_default c =
    let i = c.loop-count.invariant in
    none_fewer c.args.sizes.now c.args.most c.loop-count.count c.loop-count.left i.within c.loop-count-test.true i.left_is i.fits c.in_default.ensures
