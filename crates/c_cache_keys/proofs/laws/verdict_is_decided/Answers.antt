use Rattle.cck_hasher.proofs.Walked.{verdict_is_decided}
use Rattle.c_cache_keys.proofs.laws.verdict_is_decided.Goals as goal

pub returns : goal.returns
returns g c = λ zone config basedirs. verdict_is_decided _
