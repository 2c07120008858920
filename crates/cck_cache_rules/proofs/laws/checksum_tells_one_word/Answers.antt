use Rattle.cck_cache_rules.proofs.DifferenceLemmas.{one_word}
use Rattle.cck_cache_rules.proofs.laws.checksum_tells_one_word.Goals as goal

pub returns : goal.returns
returns c = one_word
