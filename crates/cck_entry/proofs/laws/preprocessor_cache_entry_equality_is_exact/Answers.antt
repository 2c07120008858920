use Rattle.cck_entry.proofs.EqualityLemmas.{entry_decides}
use Rattle.cck_entry.proofs.laws.preprocessor_cache_entry_equality_is_exact.Goals as goal

pub returns : goal.returns
returns c = entry_decides
