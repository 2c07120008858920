use Rattle.cck_strip.specs.SiteLemmas.{text_site-within}
use Rattle.cck_strip.proofs.CommonLemmas.{when_none}
use Rattle.cck_strip.proofs.PieceLemmas.{Remains-none, Remains-stripped}
use Rattle.cck_strip.proofs.SoughtLemmas.{text_site-empty}
use Rattle.cck_strip.proofs.text.strip_basedirs.Goals as goal

pub returns-in-None-clause-remains : goal.returns-in-None-clause-remains
returns-in-None-clause-remains c =
    Remains-none _ _ (text_site-within _ _) (text_site-empty _ _ (when_none _ _ _ c.in-None.is c.text_search.ensures))

pub returns-in-None-clause-value : goal.returns-in-None-clause-value
returns-in-None-clause-value c = Remains-stripped _ _ _ _ (text_site-within _ _) (returns-in-None-clause-remains c)

pub returns : goal.returns
returns c = record { value = c.in_ok-sites_cut_out.ensures.value; remains = c.in_ok-sites_cut_out.ensures.remains; errors = tt }
