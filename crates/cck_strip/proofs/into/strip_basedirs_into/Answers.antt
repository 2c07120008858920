use Rattle.std.proofs.Common.{refl, sym}
use Rattle.cck_strip.specs.SiteLemmas.{text_site-within}
use Rattle.cck_strip.proofs.CommonLemmas.{when_none}
use Rattle.cck_strip.proofs.PieceLemmas.{Remains-none, Remains-stripped}
use Rattle.cck_strip.proofs.SoughtLemmas.{text_site-empty}
use Rattle.cck_strip.proofs.into.strip_basedirs_into.Goals as goal

pub returns-in-None-clause-written : goal.returns-in-None-clause-written
returns-in-None-clause-written c =
    let empty = text_site-empty _ _ (when_none _ _ _ c.in-None.is c.text_search.ensures) in
    (sym (Remains-stripped _ _ _ _ (text_site-within _ _) (Remains-none _ _ (text_site-within _ _) empty)), refl)
