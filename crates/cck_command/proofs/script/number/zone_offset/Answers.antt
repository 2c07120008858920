use Rattle.std.proofs.Common.{◌∙◌, arith}
use Rattle.std.proofs.lemmas.Int.{ints, to_z-of_z}
use Rattle.cck_command.specs.ScriptNumbers.{zone_offset}
use Rattle.cck_command.proofs.script.number.zone_offset.Goals as goal
use mir.Syntax.{w32, w128}
use mir.Val.{SFits}

pub returns-in_err-seconds : goal.returns-in_err-seconds
unfolding zone_offset
returns-in_err-seconds c = c.from_residual.ensures ∙ c.in_err-seconds.ensures.value

pub returns : goal.returns
unfolding zone_offset
returns c =
    let within = c.in_ok-seconds.ensures.within in
    let wide : SFits w128 c.in_ok-seconds.seconds = omega (arith, ints) in
    let narrow : SFits w32 c.in_ok-seconds.seconds = omega (arith, ints) in
    rw (to_z-of_z w128 c.in_ok-seconds.seconds wide, to_z-of_z w32 c.in_ok-seconds.seconds narrow) c.in_ok-seconds.ensures.value
