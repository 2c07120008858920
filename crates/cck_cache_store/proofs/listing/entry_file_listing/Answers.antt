use Rattle.std.proofs.Common.{refl}
use Rattle.cck_cache_store.proofs.listing.entry_file_listing.Goals as goal

pub returns-clause-listed : goal.returns-clause-listed
returns-clause-listed c = (
  c.in_ok-entry.entry.items,
  rw c.deref.ensures.value at c.in_ok-entry.ensures.listed,
  rw (c.in_ok-push_tests.ensures, c.in_ok-push_statuses.ensures, c.in_ok-extend_from_slice.ensures.items, c.in_ok-push_text_line.ensures, c.new-lines.ensures.items, c.deref-2.ensures.value, c.deref-3.ensures.value, c.deref-4.ensures.value, c.deref-5.ensures.value) refl,
)
