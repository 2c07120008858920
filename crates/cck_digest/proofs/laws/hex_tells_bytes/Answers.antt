use Rattle.cck_digest.proofs.HexLemmas.{bytes_from_hex}
use Rattle.cck_digest.proofs.laws.hex_tells_bytes.Goals as goal

pub returns : goal.returns
returns c = bytes_from_hex
