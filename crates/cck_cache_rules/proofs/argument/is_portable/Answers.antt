use Rattle.std.proofs.lemmas.Bool.Decides.{not_from_Decides}
use Rattle.cck_cache_rules.proofs.ArgumentLemmas.{unmapped_decided}
use Rattle.cck_cache_rules.proofs.argument.is_portable.Goals as goal

pub returns : goal.returns
returns c =
    unmapped_decided c.args.argument.now c.args.base.now c.contains-2.result
    (not_from_Decides _ c.shows_paths.ensures c.if-shows_paths.false)
    (not_from_Decides _ c.contains.ensures c.if-contains.false)
    c.contains-2.ensures
