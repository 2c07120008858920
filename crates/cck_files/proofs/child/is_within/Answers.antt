use Rattle.std.proofs.Common.{◌≡◌, ◌∙◌, ap}
use Rattle.std.proofs.lemmas.Iterator.{YieldsList-from_take}
use Rattle.std.proofs.lemmas.Iterator.Consumers.{YieldsList-at, YieldsList-from_first}
use Rattle.std.proofs.lemmas.Iterator.Search.{cmp_from_yields_List}
use Rattle.std.specs.Ordering.{is_eq}
use Rattle.cck_path.specs.Components.{component_of, components_left}
use Rattle.cck_path.specs.Path.{component_cmp, components}
use Rattle.cck_path.proofs.OrderLemmas.{derived_order}
use Rattle.cck_files.proofs.child.is_within.Goals as goal

pub returns : goal.returns
returns c =
    c.is_eq.ensures ∙
    ap is_eq (cmp_from_yields_List (λ x y. y ≡ x) c.new-2.result component_cmp c.cmp.result c.cmp.ensures.ran
    (YieldsList-from_take c.args.size (YieldsList-at c.take-front.ensures.source (YieldsList-from_first component_of components_left (components c.args.path.now) c.new.ensures)) c.take-front.ensures.count)
    (λ it e. YieldsList-at e (YieldsList-from_first component_of components_left (components c.args.folder.now) c.new-2.ensures))
    derived_order)
