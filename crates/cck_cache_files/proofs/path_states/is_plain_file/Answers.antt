use Rattle.std.proofs.Common.{refl}
use Rattle.cck_cache_files.specs.declared.path_states.PathState.TheVariants.{File}
use Rattle.cck_cache_files.proofs.StateLemmas.{other_is_text}
use Rattle.cck_cache_files.proofs.path_states.is_plain_file.Goals as goal

pub returns : goal.returns
returns g c = other_is_text c.args.path.now c.look_at.result File c.eq.result refl c.look_at.ensures c.eq.ensures
