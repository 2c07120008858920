use Rattle.std.proofs.Common.{◌∙◌, ap, length, map, subst}
use Rattle.std.proofs.lemmas.List.{length_push}
use Rattle.cck_path.proofs.EntriesLemmas.{all_given, entry_at}
use Rattle.cck_path.specs.Entries.{entries_left}
use Rattle.cck_path.specs.PathMap.{pair_of}
use Rattle.cck_files.proofs.PlacesLemmas.{IsCopied, copied_all, copied_more, copied_none}
use Rattle.cck_files.specs.FileState.{canonical_of, node_at}
use Rattle.cck_files.proofs.map_files.copy_places.Goals as goal

pub loop-entry-init : goal.loop-entry-init
loop-entry-init c = copied_none (entries_left c.into_iter-entry-iterator.result) c.new-copy.result c.new-copy.ensures

pub loop-entry-preserved : goal.loop-entry-preserved
loop-entry-preserved c =
    let start = c.into_iter-entry-iterator.result in
    let is = ap (λ it. map pair_of (entries_left it)) c.into_iter-entry-iterator.ensures.into_iter_gives ∙ c.entries-entry-items.ensures in
    let at = entry_at start c.loop-entry.yielded c.loop-entry.entry-iterator c.loop-entry.yielded_by c.next.result c.next.new.self c.in-Some.entry c.in-Some.is c.next.ensures.steps in
    rw (c.in_ok-insert.ensures.set, c.deref-in-loop-entry.ensures.value, length_push c.loop-entry.yielded c.in-Some.entry)
    (copied_more (entries_left start) c.args.places.now is (length c.loop-entry.yielded) at.0 c.in-Some.entry.now at.1 c.in_ok-place.place (c.in_ok-place.ensures.node ∙ ap node_at c.deref.ensures) (c.in_ok-place.ensures.canonical ∙ ap canonical_of c.deref.ensures) c.loop-entry.copy c.loop-entry.invariant)

pub returns-clause-same : goal.returns-clause-same
returns-clause-same c =
    let start = c.into_iter-entry-iterator.result in
    let is = ap (λ it. map pair_of (entries_left it)) c.into_iter-entry-iterator.ensures.into_iter_gives ∙ c.entries-entry-items.ensures in
    let end = all_given start c.loop-entry.yielded c.loop-entry.entry-iterator c.loop-entry.yielded_by c.next.result c.next.new.self c.in-None.is c.next.ensures.steps in
    copied_all (entries_left start) c.args.places.now is c.loop-entry.copy (subst (λ i. IsCopied (entries_left start) i c.loop-entry.copy) end c.loop-entry.invariant)
