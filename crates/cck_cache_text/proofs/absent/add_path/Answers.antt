use Rattle.std.proofs.Common.{◌≡◌, ◌++◌, true, false, codes, sym, ap, ◌∙◌}
use Rattle.std.proofs.lemmas.List.{append-nil}
use Rattle.cck_cache_text.specs.Absent.{precompiled}
use Rattle.cck_cache_text.specs.Sets.{has_key}
use Rattle.cck_cache_text.proofs.AbsentLemmas.{beside_new, beside_old}
use Rattle.cck_cache_text.proofs.SetLemmas.{contains-has}
use Rattle.cck_cache_text.proofs.absent.add_path.Goals as goal

pub returns-in_ok-add-2 : goal.returns-in_ok-add-2
returns-in_ok-add-2 c =
    let names = c.args.named.now.names in
    let path = c.args.path.items in
    let first : c.in_ok-joined.field-0.items ≡ precompiled path = c.in_ok-joined.ensures ∙ (append-nil _ ∙ ap (λ p. p ++ codes ".gch") c.deref.ensures.value) in
    let found : has_key names c.as_slice.result.now ≡ false = sym (contains-has names c.as_slice.result.now) ∙ sym c.if-not-contains.ensures in
    beside_new (has_key names) path c.in_ok-joined.field-0.items first c.args.paths.now c.add-then-not-contains.new.paths c.add.new.paths (ap (has_key names) (sym c.as_slice.ensures.value) ∙ found) c.in_ok-add.ensures c.in_ok-add-2.ensures

pub returns-else-not-contains : goal.returns-else-not-contains
returns-else-not-contains c =
    let names = c.args.named.now.names in
    let path = c.args.path.items in
    let first : c.in_ok-joined.field-0.items ≡ precompiled path = c.in_ok-joined.ensures ∙ (append-nil _ ∙ ap (λ p. p ++ codes ".gch") c.deref.ensures.value) in
    let found : has_key names c.as_slice.result.now ≡ true = sym (contains-has names c.as_slice.result.now) ∙ sym c.if-not-contains.ensures in
    beside_old (has_key names) path c.in_ok-joined.field-0.items first c.args.paths.now c.add.new.paths (ap (has_key names) (sym c.as_slice.ensures.value) ∙ found) c.in_ok-add.ensures
