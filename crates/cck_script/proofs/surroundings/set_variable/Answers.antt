use Rattle.std.proofs.Common.{◌≡◌, ◌∙◌, length, refl}
use Rattle.std.specs.BTreeMap.{get}
use Rattle.std.specs.Option.{unwrap_or}
use Rattle.cck_script.specs.Surroundings.{name_cmp}
use Rattle.cck_script.proofs.VariableLemmas.{set_known, set_new}
use Rattle.cck_script.proofs.surroundings.set_variable.Goals as goal

pub returns-then-at-count-clause-set : goal.returns-then-at-count-clause-set
returns-then-at-count-clause-set c = λ are.
    let count = c.len-count.ensures ∙ c.args.variables.now.ok.0 in
    let found : c.unwrap_or-at.result ≡ unwrap_or (get name_cmp c.args.places.now c.args.name) (length c.args.variables.now.items) =
    c.unwrap_or-at.ensures ∙ rw (c.copied.ensures, c.get.ensures.value, c.as_slice.ensures.value, count) refl in
    set_known c.args.variables.now.items c.args.places.now c.args.name c.unwrap_or-at.result found are
    c.index_mut.result.now c.args.value (rw count at c.if-at-count.true) c.index_mut.ensures.value

pub returns-clause-set : goal.returns-clause-set
returns-clause-set c = λ are.
    let count = c.len-count.ensures ∙ c.args.variables.now.ok.0 in
    let found : c.unwrap_or-at.result ≡ unwrap_or (get name_cmp c.args.places.now c.args.name) (length c.args.variables.now.items) =
    c.unwrap_or-at.ensures ∙ rw (c.copied.ensures, c.get.ensures.value, c.as_slice.ensures.value, count) refl in
    set_new c.args.variables.now.items c.args.places.now c.args.name c.unwrap_or-at.result found are
    c.insert.new.self _ c.in_ok-copy.copy c.args.value (rw count at c.if-at-count.false) (rw c.reserve.ensures.items at c.in_ok-push.ensures.items)
    (c.in_ok-copy.ensures.items_if_clones_equal (λ x y e. e) ∙ c.deref.ensures.value)
    (rw count at c.in_ok-insert.ensures.updates.0)

pub returns-then-at-count-clause-kept : goal.returns-then-at-count-clause-kept
returns-then-at-count-clause-kept c = tt

pub index_mut-requires : goal.index_mut-requires
index_mut-requires c = rw (← c.len-count.ensures) c.if-at-count.true
