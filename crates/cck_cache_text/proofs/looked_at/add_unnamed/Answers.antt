use Rattle.std.proofs.Common.{◌≡◌, true, false, sym, ap, ◌∙◌}
use Rattle.cck_cache_text.specs.Sets.{has_key}
use Rattle.cck_cache_text.proofs.LookedAtLemmas.{unnamed_new, unnamed_old}
use Rattle.cck_cache_text.proofs.SetLemmas.{contains-has}
use Rattle.cck_cache_text.proofs.looked_at.add_unnamed.Goals as goal

pub returns-in_ok-add : goal.returns-in_ok-add
returns-in_ok-add c =
    let names = c.args.named.now.names in
    let found : has_key names c.as_slice.result.now ≡ false = sym (contains-has names c.as_slice.result.now) ∙ sym c.if-not-contains.ensures in
    unnamed_new (has_key names) c.args.path.items c.args.paths.now c.add.new.paths (ap (has_key names) (sym c.as_slice.ensures.value) ∙ found) c.in_ok-add.ensures

pub returns-else-not-contains : goal.returns-else-not-contains
returns-else-not-contains c =
    let names = c.args.named.now.names in
    let found : has_key names c.as_slice.result.now ≡ true = sym (contains-has names c.as_slice.result.now) ∙ sym c.if-not-contains.ensures in
    unnamed_old (has_key names) c.args.path.items c.args.paths.now (ap (has_key names) (sym c.as_slice.ensures.value) ∙ found)
