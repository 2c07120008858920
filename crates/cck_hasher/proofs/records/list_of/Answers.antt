use Rattle.std.proofs.Common.{◌∙◌, length, map, ap}
use Rattle.std.proofs.lemmas.List.{length_push}
use Rattle.cck_path.proofs.EntriesLemmas.{all_given, entry_at}
use Rattle.cck_path.specs.Entries.{entries_left}
use Rattle.cck_path.specs.PathMap.{pair_of}
use Rattle.cck_hasher.proofs.RecordLemmas.{listed_all, listed_more}
use Rattle.cck_hasher.specs.Digests.{digest_pair}
use Rattle.cck_hasher.proofs.records.list_of.Goals as goal

pub loop-entry-init : goal.loop-entry-init
loop-entry-init c = ap (map digest_pair) c.new-files.ensures.items

pub loop-entry-preserved : goal.loop-entry-preserved
loop-entry-preserved c =
    let start = c.into_iter-entry-iterator.result in
    let is = ap (λ it. map pair_of (entries_left it)) c.into_iter-entry-iterator.ensures.into_iter_gives ∙ c.entries-entry-items.ensures in
    let at = entry_at start c.loop-entry.yielded c.loop-entry.entry-iterator c.loop-entry.yielded_by c.next.result c.next.new.self c.in-Some.entry c.in-Some.is c.next.ensures.steps in
    rw (c.in_ok-push.ensures.items, length_push c.loop-entry.yielded c.in-Some.entry)
    (listed_more (entries_left start) c.args.digests.now is c.requires (length c.loop-entry.yielded) at.0 c.in-Some.entry.now at.1
    c.loop-entry.files.items c.loop-entry.invariant c.in-Ok.path c.in_ok-digest.digest (rw (← c.deref.ensures.value) c.in-Ok.ensures.bytes) (rw (← c.deref-in-loop-entry.ensures) c.in_ok-digest.ensures.ok))

pub returns : goal.returns
returns c =
    let start = c.into_iter-entry-iterator.result in
    let is = ap (λ it. map pair_of (entries_left it)) c.into_iter-entry-iterator.ensures.into_iter_gives ∙ c.entries-entry-items.ensures in
    let end = all_given start c.loop-entry.yielded c.loop-entry.entry-iterator c.loop-entry.yielded_by c.next.result c.next.new.self c.in-None.is c.next.ensures.steps in
    listed_all (entries_left start) c.args.digests.now is (length c.loop-entry.yielded) end c.loop-entry.files.items c.loop-entry.invariant
