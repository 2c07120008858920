use Rattle.cck_cache_options.proofs.PartLemmas.{asked_is_read}
use Rattle.cck_cache_options.proofs.laws.asked_is_read.Goals as goal

pub returns : goal.returns
returns c = asked_is_read
