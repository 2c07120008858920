use Rattle.std.proofs.Common.{sym, ◌∙◌}
use Rattle.cck_cache_rules.proofs.ArgumentLemmas.{Has-found}
use Rattle.cck_cache_rules.proofs.argument.contains.Goals as goal

pub returns : goal.returns
returns c =
    let found = Has-found c.args.bytes.now c.args.others.now c.find.result c.find.ensures in
    (λ is. found.0 (sym c.is_some.ensures ∙ is), λ has. c.is_some.ensures ∙ found.1 has)
