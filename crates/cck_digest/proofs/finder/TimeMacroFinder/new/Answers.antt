use Rattle.std.proofs.Common.{refl}
use Rattle.cck_digest.proofs.FinderLemmas.{Follows-nothing}
use Rattle.cck_digest.proofs.finder.TimeMacroFinder.new.Goals as goal

pub returns : goal.returns
returns c = Follows-nothing _ refl refl refl refl
