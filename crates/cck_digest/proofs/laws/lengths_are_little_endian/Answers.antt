use Rattle.cck_digest.proofs.FrameLemmas.{length_bytes_are_bytes}
use Rattle.cck_digest.proofs.laws.lengths_are_little_endian.Goals as goal

pub returns : goal.returns
returns g = length_bytes_are_bytes
