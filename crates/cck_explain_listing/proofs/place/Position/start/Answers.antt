use Rattle.std.proofs.Common.{refl}
use Rattle.cck_explain_listing.specs.Place.{position_after}
use Rattle.cck_explain_listing.proofs.place.Position.start.Goals as goal

pub returns : goal.returns
unfolding position_after
returns c = refl
