use Rattle.std.proofs.Common.{ap, ◌∙◌}
use Rattle.std.proofs.lemmas.List.{take_all}
use Rattle.cck_path.specs.Bytes.{variables_of}
use Rattle.cck_script.proofs.surroundings.copy_variables.Goals as goal

pub loop-name-init : goal.loop-name-init
loop-name-init c = ap variables_of c.new-copy.ensures.items

pub returns : goal.returns
returns c = c.loop-name.invariant ∙ ap variables_of (take_all c.loop-name.name-index c.args.variables.now c.loop-name-test.false)
