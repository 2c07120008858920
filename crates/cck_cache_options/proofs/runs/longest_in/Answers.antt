use Rattle.std.proofs.Common.{sym, ◌∙◌}
use Rattle.std.specs.Option.{option_map}
use Rattle.std.proofs.lemmas.Bool.Decides.{not_from_Decides}
use Rattle.cck_cache_options.specs.Table.{entry}
use Rattle.cck_cache_options.proofs.RunLemmas.{other_run}
use Rattle.cck_cache_options.proofs.runs.longest_in.Goals as goal

pub returns-then-not-is_same : goal.returns-then-not-is_same
returns-then-not-is_same c is_run =
    other_run c.args.argument.now c.args.run.now (option_map entry c.args.before) (sym c.is_some.ensures ∙ c.if-is_some.true)
    (λ same. not_from_Decides _ c.is_same.ensures c.if-not-is_same.true (same ∙ sym c.after_dash.ensures)) is_run
