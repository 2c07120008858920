use Rattle.cck_strip.proofs.EndingLemmas.{IsRead-more}
use Rattle.cck_strip.proofs.CommonLemmas.{when_some}
use Rattle.cck_strip.proofs.endings.advanced.Goals as goal

pub returns-clause-read : goal.returns-clause-read
returns-clause-read c =
    IsRead-more _ _ _ _ _ c.requires.read (when_some _ _ _ _ c.in-Some.is c.longer.ensures.longer) (c.longer.ensures.within _ c.in-Some.is)
