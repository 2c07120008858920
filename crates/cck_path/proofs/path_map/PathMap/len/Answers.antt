use Rattle.std.proofs.Common.{ap, ◌∙◌}
use Rattle.std.specs.FinMap.{len}
use Rattle.cck_path.specs.Blocks.{entries_of}
use Rattle.cck_path.proofs.BlockLemmas.{len_of}
use Rattle.cck_path.proofs.path_map.PathMap.len.Goals as goal

pub returns : goal.returns
returns g c = c.self.invariant.1 ∙ len_of (entries_of c.self.inside.blocks.items) c.self.invariant.0.in_order ∙ ap len c.self.view_is
