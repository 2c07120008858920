use Rattle.cck_cache_options.proofs.PlainLemmas.{preprocessor_is_read}
use Rattle.cck_cache_options.proofs.laws.preprocessor_is_read.Goals as goal

pub returns : goal.returns
returns c = preprocessor_is_read
