use Rattle.cck_digest.proofs.HexLemmas.{text_length}
use Rattle.cck_digest.proofs.laws.text_has_64_characters.Goals as goal

pub returns : goal.returns
returns g c = λ fed. text_length g.H.HashState.hash fed (g.met.H.HashState.length_hash fed)
