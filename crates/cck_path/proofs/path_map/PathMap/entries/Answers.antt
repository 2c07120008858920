use Rattle.std.proofs.Common.{◌∙◌, sym, ap, map}
use Rattle.std.specs.FinMap.{entries, entries-from_sorted}
use Rattle.cck_path.specs.Path.{path_cmp}
use Rattle.cck_path.specs.Blocks.{entries_of}
use Rattle.cck_path.specs.PathMap.{pair_of}
use Rattle.cck_path.proofs.path_map.PathMap.entries.Goals as goal

pub returns : goal.returns
returns g c =
    ap (λ bs. map pair_of (entries_of bs)) c.deref.ensures.value
    ∙ sym (entries-from_sorted path_cmp (map pair_of (entries_of c.self.inside.blocks.items)) c.self.invariant.0.in_order)
    ∙ ap entries c.self.view_is
