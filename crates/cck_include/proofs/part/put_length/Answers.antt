use Rattle.std.proofs.Common.{◌++◌, ap, sym, ◌∙◌}
use Rattle.cck_digest.proofs.FrameLemmas.{length_bytes_are_bytes}
use Rattle.cck_include.proofs.part.put_length.Goals as goal

pub returns : goal.returns
returns c =
    c.in_ok-extend_from_slice.ensures.items
    ∙ ap (λ bytes. c.args.part.now.items ++ bytes) (c.to_le_bytes.ensures ∙ sym (length_bytes_are_bytes c.args.length c.ranges.length.fits))
