use denote.Enum.Bare.{same_true, true_same}
use Rattle.cck_hasher.specs.contracts.call.CacheControl.{the_type}
use Rattle.c_cache_keys.proofs.laws.cache_control_equality_is_exact.Goals as goal

pub returns : goal.returns
returns c = λ a b. (same_true the_type tt a b, true_same the_type a b)
