use Rattle.cck_cache_files.proofs.StateLemmas.{by_links}
use Rattle.cck_cache_files.proofs.path_states.PathState.leads_on.Goals as goal

pub returns-in-Link : goal.returns-in-Link
returns-in-Link c = by_links c.args.links c.args.self c.in-Link.is
