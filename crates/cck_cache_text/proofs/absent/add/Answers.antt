use Rattle.cck_cache_text.proofs.SetLemmas.{adds_one}
use Rattle.cck_cache_text.proofs.absent.add.Goals as goal

pub returns : goal.returns
returns c = adds_one c.args.paths.now c.insert.new.self c.args.path c.in_ok-insert.ensures.keys
