use Rattle.c_cache_keys.proofs.KeepingLemmas.{match_is_plain}
use Rattle.c_cache_keys.proofs.keeping_laws.match_is_plain.Goals as goal

pub returns : goal.returns
returns g c = λ zone config basedirs. match_is_plain _ _ g.met.H.HashState.length_hash g.met.S.PreprocessorStore.laws
