use Rattle.std.proofs.Common.{ap, length, arith, inl}
use Rattle.std.proofs.lemmas.Iterator.Consumers.{YieldsList-from_first, count_from_yields_List}
use Rattle.cck_path.specs.Components.{component_of, components_left}
use Rattle.cck_path.specs.Path.{components}
use Rattle.cck_files.proofs.BelowLemmas.{few_components}
use Rattle.cck_files.proofs.child.component_count.Goals as goal

pub returns : goal.returns
returns c = count_from_yields_List c.new.result c.count.result c.count.ensures.ran (YieldsList-from_first component_of components_left (components c.args.path.now) c.new.ensures)

pub count-requires-clause-fits : goal.count-requires-clause-fits
count-requires-clause-fits c = let few = ap length c.new.ensures in inl (omega (arith, few, few_components c.args.path.now))
