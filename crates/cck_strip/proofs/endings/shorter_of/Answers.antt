use Rattle.cck_strip.proofs.EndingLemmas.{shorter_none, shorter_some}
use Rattle.cck_strip.proofs.endings.shorter_of.Goals as goal

pub returns-in-None-clause-longest : goal.returns-in-None-clause-longest
returns-in-None-clause-longest c words ending t r = shorter_none _ _ _ _ _ c.in-None.is r

pub returns-in-Some-links-clause-longest : goal.returns-in-Some-links-clause-longest
returns-in-Some-links-clause-longest c =
    shorter_some _ _ _ _ _ _ _ c.requires.links c.in-Some.is c.in-Some-links.is c.next_state.ensures.longest
