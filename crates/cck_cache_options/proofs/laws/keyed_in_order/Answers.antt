use Rattle.cck_cache_options.proofs.KeyedLemmas.{keyed_in_order}
use Rattle.cck_cache_options.proofs.laws.keyed_in_order.Goals as goal

pub returns : goal.returns
returns c = keyed_in_order
