use Rattle.std.proofs.lemmas.Bool.Decides.{Decides-eqb}
use Rattle.std.proofs.lemmas.Slice.Eq.{strip_prefix_is}
use Rattle.cck_cache_options.proofs.TableLemmas.{stripped}
use Rattle.cck_cache_options.proofs.table.after_name.Goals as goal

pub returns : goal.returns
returns c =
    stripped c.args.name.now c.args.argument.now c.strip_prefix.result
    (strip_prefix_is Decides-eqb c.args.argument.now c.args.name.now c.strip_prefix.result c.strip_prefix.ensures.cases)
