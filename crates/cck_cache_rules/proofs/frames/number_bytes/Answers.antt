use Rattle.std.proofs.Common.{◌∙◌, sym}
use Rattle.cck_digest.proofs.FrameLemmas.{length_bytes_are_bytes}
use Rattle.cck_cache_rules.proofs.frames.number_bytes.Goals as goal

pub returns : goal.returns
returns c = c.to_le_bytes.ensures ∙ sym (length_bytes_are_bytes c.args.number c.ranges.number.fits)
