use Rattle.std.proofs.Common.{◌∙◌, ap, w64}
use Rattle.std.proofs.lemmas.Int.{to_z-of_z}
use Rattle.std.specs.Fmt.{signed_decimal}
use Rattle.cck_explain_listing.proofs.entry_line.seconds_text.Goals as goal

pub returns : goal.returns
returns c = c.in_ok-text.ensures.ok ∙ ap signed_decimal (to_z-of_z w64 c.args.seconds c.ranges.seconds)
