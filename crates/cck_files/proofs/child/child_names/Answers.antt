use Rattle.std.proofs.Common.{◌∙◌, ap, length, map, subst, sym, take}
use Rattle.std.proofs.lemmas.List.{length_push}
use Rattle.std.specs.Prelude.{vec_items}
use Rattle.std.specs.Ordering.{is_eq}
use Rattle.cck_path.specs.Path.{components, path_cmp}
use Rattle.cck_path.proofs.EntriesLemmas.{all_given, entry_at}
use Rattle.cck_path.specs.Entries.{entries_left}
use Rattle.cck_path.specs.PathMap.{pair_of, part_from, path_of}
use Rattle.cck_files.proofs.BelowLemmas.{children_of_part, none_after, not_within}
use Rattle.cck_files.proofs.NamesLemmas.{IsListed, listed_all, listed_child, listed_other, listed_stop}
use Rattle.cck_files.proofs.child.child_names.Goals as goal

pub loop-entry-preserved-in_ok-push : goal.loop-entry-preserved-in_ok-push
loop-entry-preserved-in_ok-push g c =
    let start = c.into_iter-entry-iterator.result in
    let is = ap (λ it. map pair_of (entries_left it)) c.into_iter-entry-iterator.ensures.into_iter_gives ∙ c.entries_from-entry-items.ensures in
    let at = entry_at start c.loop-entry.yielded c.loop-entry.entry-iterator c.loop-entry.yielded_by c.next.result c.next.new.self c.in-Some.entry c.in-Some.is c.next.ensures.steps in
    rw (c.in_ok-push.ensures.items, length_push c.loop-entry.yielded c.in-Some.entry)
    (listed_child (components c.args.folder.now) (entries_left start) (part_from (components c.args.folder.now) c.args.paths.now) is (length c.loop-entry.yielded) at.0 c.in-Some.entry.now at.1 c.loop-entry.names.items c.loop-entry.invariant c.in_ok-to_vec.field-0 c.in-Some-child_name.name.now (c.in_ok-to_vec.ensures.items_if_clones_equal (λ x y e. e)) c.in-Some-child_name.ensures.0
    (ap components (sym c.deref-in-loop-entry.ensures.value) ∙ c.in-Some-child_name.ensures.1))

pub loop-entry-preserved : goal.loop-entry-preserved
loop-entry-preserved g c =
    let start = c.into_iter-entry-iterator.result in
    let is = ap (λ it. map pair_of (entries_left it)) c.into_iter-entry-iterator.ensures.into_iter_gives ∙ c.entries_from-entry-items.ensures in
    let at = entry_at start c.loop-entry.yielded c.loop-entry.entry-iterator c.loop-entry.yielded_by c.next.result c.next.new.self c.in-Some.entry c.in-Some.is c.next.ensures.steps in
    rw (length_push c.loop-entry.yielded c.in-Some.entry)
    (listed_other (components c.args.folder.now) (entries_left start) (part_from (components c.args.folder.now) c.args.paths.now) is (length c.loop-entry.yielded) at.0 c.in-Some.entry.now at.1 c.loop-entry.names.items c.loop-entry.invariant (λ n same. c.in_default.ensures n (ap components c.deref-in-loop-entry.ensures.value ∙ same)))

pub returns-clause-names : goal.returns-clause-names
returns-clause-names g c =
    let p = components c.args.folder.now in
    let start = c.into_iter-entry-iterator.result in
    let is = ap (λ it. map pair_of (entries_left it)) c.into_iter-entry-iterator.ensures.into_iter_gives ∙ c.entries_from-entry-items.ensures in
    let names = map vec_items c.loop-entry.names.items in
    let end = all_given start c.loop-entry.yielded c.loop-entry.entry-iterator c.loop-entry.yielded_by c.next.result c.next.new.self c.in-None.is c.next.ensures.steps in
    children_of_part p c.args.paths.now names
    (listed_all p (entries_left start) (part_from p c.args.paths.now) is names (subst (λ i. IsListed p (entries_left start) i names) end c.loop-entry.invariant))

pub returns-then-not-is_within-clause-names : goal.returns-then-not-is_within-clause-names
returns-then-not-is_within-clause-names g c =
    let p = components c.args.folder.now in
    let m = c.args.paths.now in
    let start = c.into_iter-entry-iterator.result in
    let is = ap (λ it. map pair_of (entries_left it)) c.into_iter-entry-iterator.ensures.into_iter_gives ∙ c.entries_from-entry-items.ensures in
    let names = map vec_items c.loop-entry.names.items in
    let size = length c.loop-entry.yielded in
    let at = entry_at start c.loop-entry.yielded c.loop-entry.entry-iterator c.loop-entry.yielded_by c.next.result c.next.new.self c.in-Some.entry c.in-Some.is c.next.ensures.steps in
    let test = sym (ap (λ t. is_eq (path_cmp (take c.component_count-size.result (components t)) p)) c.deref.ensures.value) ∙ sym c.is_within.ensures ∙ c.if-not-is_within.true in
    let other = not_within p (path_of c.in-Some.entry.now) c.component_count-size.result test c.component_count-size.ensures in
    children_of_part p m names
    (listed_all p (entries_left start) (part_from p m) is names (listed_stop p (entries_left start) size names (none_after p m (entries_left start) is size at.0 c.in-Some.entry.now at.1 other) c.loop-entry.invariant))
