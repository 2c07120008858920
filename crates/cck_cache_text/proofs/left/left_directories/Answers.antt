use Rattle.cck_cache_text.proofs.LeftLemmas.{found_left}
use Rattle.cck_cache_text.proofs.left.left_directories.Goals as goal

pub returns-clause-left : goal.returns-clause-left
returns-clause-left c = found_left c.args.directory.now c.args.text.now c.named.result.now c.left_by.result c.named.ensures c.left_by.ensures.left
