use Rattle.std.proofs.Common.{◌≤◌, ◌-◌, map}
use Rattle.cck_strip.specs.Text.{text_site}
use Rattle.cck_strip.proofs.MarkLemmas.{NoneUpTo}
use Rattle.cck_strip.proofs.text.WordSearchSearchTextSites.next_place.Given as goal

abbrev pub invariant-loop-at : goal.invariant-loop-at
invariant-loop-at l = record {
  from_on : l.from ≤ l.at;
  within : l.at ≤ l.end;
  passed : NoneUpTo (text_site (map (λ b. b.items) l.sites.basedirs.now) l.sites.text.now) l.from l.at;
}

abbrev pub decreases-loop-at : goal.decreases-loop-at
decreases-loop-at l = l.end - l.at
