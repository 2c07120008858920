use Rattle.cck_strip.proofs.EndingLemmas.{IsSought-found, IsSought-start, sought_link, sought_none}
use Rattle.cck_strip.proofs.CommonLemmas.{when_none, when_some}
use Rattle.cck_strip.proofs.endings.next_state.Goals as goal

pub loop-left-init : goal.loop-left-init
loop-left-init c = record { within = c.requires.within; sought = λ words text t g. IsSought-start _ _ _ _ _ g }

pub returns-in-Some-clause-longest : goal.returns-in-Some-clause-longest
returns-in-Some-clause-longest c words text t g =
    IsSought-found _ _ _ _ _ _ (c.loop-left.invariant.sought words text t g) (when_some _ _ _ _ c.in-Some.is c.longer.ensures.longer)

pub returns-in-None-clause-longest : goal.returns-in-None-clause-longest
returns-in-None-clause-longest c words text t g =
    sought_none _ _ _ _ _ c.in-None.is t (c.loop-left.invariant.sought words text t g) (when_none _ _ _ c.in_default.is c.longer.ensures.longer)

pub loop-left-preserved : goal.loop-left-preserved
loop-left-preserved c = record {
  within = c.requires.links.within _ _ c.in-Some-links.is;
  sought = λ words text t g.
      sought_link _ _ _ _ _ _ _ _ c.requires.links c.in-Some-at.is c.in-Some-links.is t (c.loop-left.invariant.sought words text t g)
      (when_none _ _ _ c.in_default.is c.longer.ensures.longer);
}
