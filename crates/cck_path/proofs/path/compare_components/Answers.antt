use Rattle.std.proofs.Common.{◌≡◌, ap, refl}
use Rattle.std.proofs.lemmas.Iterator.Consumers.{YieldsList-from_first}
use Rattle.std.proofs.lemmas.Iterator.Search.{cmp_from_yields_List}
use Rattle.cck_path.specs.Path.{component_cmp}
use Rattle.cck_path.specs.Components.{component_of, components_left}
use Rattle.cck_path.proofs.OrderLemmas.{derived_order}
use Rattle.cck_path.proofs.path.compare_components.Goals as goal

pub returns : goal.returns
returns c =
    cmp_from_yields_List (λ x y. y ≡ x) c.args.b component_cmp c.cmp.result c.cmp.ensures.ran
    (YieldsList-from_first component_of components_left (components_left c.args.a) refl)
    (λ it e. YieldsList-from_first component_of components_left (components_left c.args.b) (ap components_left e))
    derived_order
