use Rattle.cck_cache_options.proofs.LongestLemmas.{longest_is_found}
use Rattle.cck_cache_options.proofs.laws.longest_is_found.Goals as goal

pub returns : goal.returns
returns c = longest_is_found
