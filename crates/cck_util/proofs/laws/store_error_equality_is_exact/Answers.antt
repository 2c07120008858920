use denote.Enum.Bare.{same_true, true_same}
use Rattle.cck_util.specs.contracts.store.StoreError.{the_type}
use Rattle.cck_util.proofs.laws.store_error_equality_is_exact.Goals as goal

pub returns : goal.returns
returns c = λ a b. (same_true the_type tt a b, true_same the_type a b)
