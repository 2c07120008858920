use Rattle.std.proofs.Common.{◌++◌, ap₂, ◌∙◌}
use Rattle.cck_explain_listing.proofs.entry_text.entry_listing.Goals as goal

pub returns-clause-listed : goal.returns-clause-listed
returns-clause-listed c = (
  c.in_ok-entry.entry,
  c.in_ok-entry.ensures.entry,
  c.in_ok-extend_from_slice.ensures.items ∙ ap₂ (λ a b. a ++ b) c.in_ok-listing.ensures (c.deref.ensures.value ∙ c.in_ok-lines.ensures),
)
