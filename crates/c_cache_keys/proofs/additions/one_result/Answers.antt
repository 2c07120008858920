use Rattle.c_cache_keys.proofs.AdditionTexts.{one_of_view}
use Rattle.c_cache_keys.proofs.additions.one_result.Goals as goal

pub returns : goal.returns
returns c = one_of_view c.in-Ok.view c.args.bytes.now c.results.result.now c.only.result c.in-Ok.ensures.reads c.in-Ok.ensures.only c.results.ensures.entries c.only.ensures
