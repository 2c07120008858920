use Rattle.cck_cache_options.proofs.QuoteLemmas.{reads_back}
use Rattle.cck_cache_options.proofs.laws.reads_back.Goals as goal

pub returns : goal.returns
returns c = reads_back
