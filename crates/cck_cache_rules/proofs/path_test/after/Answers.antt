use Rattle.std.proofs.lemmas.Slice.Eq.{strip_prefix_is}
use Rattle.std.proofs.lemmas.Bool.Decides.{Decides-eqb}
use Rattle.cck_cache_rules.proofs.TestLemmas.{stripped}
use Rattle.cck_cache_rules.proofs.path_test.after.Goals as goal

pub returns : goal.returns
returns c = stripped c.args.word.now c.args.bytes.now c.strip_prefix.result (strip_prefix_is Decides-eqb c.args.bytes.now c.args.word.now c.strip_prefix.result c.strip_prefix.ensures.cases)
