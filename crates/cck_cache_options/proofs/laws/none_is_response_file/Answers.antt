use Rattle.cck_cache_options.proofs.PlainLemmas.{none_is_response_file}
use Rattle.cck_cache_options.proofs.laws.none_is_response_file.Goals as goal

pub returns : goal.returns
returns c = none_is_response_file
