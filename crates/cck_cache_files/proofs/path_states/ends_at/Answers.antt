use Rattle.cck_cache_files.proofs.StateLemmas.{at_the_root}
use Rattle.cck_cache_files.proofs.path_states.ends_at.Goals as goal

pub returns-else-place-gt0 : goal.returns-else-place-gt0
returns-else-place-gt0 c = at_the_root c.args.path.now c.args.place c.if-place-gt0.false
