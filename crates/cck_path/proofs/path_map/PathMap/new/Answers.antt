use Rattle.std.proofs.Common.{ap}
use Rattle.cck_path.specs.Blocks.{entries_of}
use Rattle.cck_path.proofs.PlaceLemmas.{none_in}
use Rattle.cck_path.proofs.path_map.PathMap.new.Goals as goal

pub returns : goal.returns
returns g c = none_in (entries_of c.new.result.items) (ap entries_of c.new.ensures.items)
