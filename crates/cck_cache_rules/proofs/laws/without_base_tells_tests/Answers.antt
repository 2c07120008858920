use Rattle.cck_cache_rules.proofs.BaseTestLemmas.{without_base_tells_tests}
use Rattle.cck_cache_rules.proofs.laws.without_base_tells_tests.Goals as goal

pub returns : goal.returns
returns c = without_base_tells_tests
