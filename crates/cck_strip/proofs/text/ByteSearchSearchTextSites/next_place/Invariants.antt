use Rattle.std.proofs.Common.{length, map}
use Rattle.cck_strip.proofs.ByteLemmas.{Left}
use Rattle.cck_strip.proofs.text.ByteSearchSearchTextSites.next_place.Given as goal

abbrev pub invariant-loop-distance : goal.invariant-loop-distance
invariant-loop-distance l = Left (map (λ b. b.items) l.sites.basedirs.now) l.self.byte l.sites.text.now l.distances l.from

abbrev pub decreases-loop-distance : goal.decreases-loop-distance
decreases-loop-distance l = length l.distances
