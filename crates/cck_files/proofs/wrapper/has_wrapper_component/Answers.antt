use Rattle.std.proofs.Common.{rules, tests}
use Rattle.std.proofs.lemmas.Iterator.Consumers.{YieldsList-from_first}
use Rattle.std.proofs.lemmas.Iterator.Search.{any_from_yields_List}
use Rattle.cck_path.specs.Components.{component_of, components_left}
use Rattle.cck_path.specs.Path.{components}
use Rattle.cck_files.specs.Wrapper.{has_wrapper_component, is_wrapper_component}
use Rattle.cck_files.proofs.wrapper.has_wrapper_component.Goals as goal

pub returns : goal.returns
unfolding has_wrapper_component
returns c = any_from_yields_List is_wrapper_component c.any.new.self _ _ c.any.ensures.ran
    (YieldsList-from_first component_of components_left {s = c.new.result} (components c.args.path.now) c.new.ensures)
    (λ x b q k. search (rules, tests))
