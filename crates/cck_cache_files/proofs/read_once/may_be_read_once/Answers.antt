use Rattle.std.proofs.Common.{codes, sym, subst, MatchBool}
use Rattle.cck_cache_files.specs.ReadOnce.{HasOnce}
use Rattle.cck_cache_files.proofs.ReadOnceLemmas.{decided}
use Rattle.cck_cache_rules.proofs.ArgumentLemmas.{Has-found}
use Rattle.cck_cache_files.proofs.read_once.may_be_read_once.Goals as goal

pub returns : goal.returns
returns c =
    let contents = c.args.contents.now in
    subst (λ b. MatchBool b (HasOnce contents) (¬ (HasOnce contents))) (sym c.is_some.ensures) (decided (HasOnce contents) _ (Has-found contents (codes "once") c.find.result c.find.ensures))
