use Rattle.cck_cache_rules.proofs.DifferenceLemmas.{two_words}
use Rattle.cck_cache_rules.proofs.laws.checksum_tells_two_words.Goals as goal

pub returns : goal.returns
returns c = two_words
