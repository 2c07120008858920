use Rattle.std.proofs.Common.{◌++◌, sym, ◌∙◌, subst}
use Rattle.cck_digest.proofs.FrameLemmas.{length_bytes_are_bytes}
use Rattle.cck_digest.proofs.digest.hash_length.Goals as goal

pub returns : goal.returns
returns g c = λ fed held.
    subst (λ bytes. g.H.HashState.holds c.update.new.self (fed ++ bytes)) (c.to_le_bytes.ensures ∙ sym (length_bytes_are_bytes c.args.length c.ranges.length.fits))
    (c.update.ensures fed held)
