use Rattle.cck_cache_rules.proofs.EqualityLemmas.{test_decides}
use Rattle.cck_cache_rules.proofs.laws.path_test_equality_is_exact.Goals as goal

pub returns : goal.returns
returns c = test_decides
