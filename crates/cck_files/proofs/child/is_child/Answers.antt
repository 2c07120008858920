use Rattle.std.proofs.Common.{◌≡◌, ◌∙◌, ap}
use Rattle.std.proofs.lemmas.Iterator.Consumers.{YieldsList-at, YieldsList-from_chain, YieldsList-from_first}
use Rattle.std.proofs.lemmas.Iterator.Search.{cmp_from_yields_List}
use Rattle.std.specs.Ordering.{is_eq}
use Rattle.cck_path.specs.Components.{component_of, components_left}
use Rattle.cck_path.specs.Path.{component_cmp, components}
use Rattle.cck_path.proofs.OrderLemmas.{derived_order}
use Rattle.cck_files.proofs.ChildLemmas.{one_component}
use Rattle.cck_files.proofs.child.is_child.Goals as goal

pub returns : goal.returns
returns c =
    c.is_eq.ensures ∙
    ap is_eq (cmp_from_yields_List (λ x y. y ≡ x) c.chain-child.result component_cmp c.cmp.result c.cmp.ensures.ran
    (YieldsList-from_first component_of components_left (components c.args.path.now) c.new-2.ensures)
    (λ it e. YieldsList-at e (YieldsList-from_chain (YieldsList-at c.chain-child.ensures.first (YieldsList-from_first component_of components_left (components c.args.folder.now) c.new.ensures)) (YieldsList-at c.chain-child.ensures.second (one_component _ c.once.ensures.item)) c.chain-child.ensures.first_done c.chain-child.ensures.second_done))
    derived_order)
