use Rattle.std.proofs.Common.{refl}
use Rattle.cck_cache_options.proofs.RunLemmas.{row_more}
use Rattle.cck_cache_options.proofs.runs.add_row.Goals as goal

pub returns : goal.returns
returns c = row_more c.args.runs.now _ _ c.args.row _ c.in_ok-open_run.ensures c.after_dash.ensures refl refl c.in_ok-push.ensures.items
