-- The tests of equality hold exactly if two values are the same.
use Rattle.std.proofs.Common.{◌≡◌, ap}
use Rattle.std.specs.Cmp.Lexicographic.{bytes_decides, pointwise_decides}
use Rattle.std.specs.FinMap.{entries, same_entries_map}
use Rattle.std.specs.Prelude.{Decides}
use Rattle.std.proofs.lemmas.Bool.Decides.{Decides-and, Decides-like}
use Rattle.cck_include.proofs.EqualityLemmas.{include_decides}
use Rattle.cck_entry.specs.Entry.{Entry}
use Rattle.cck_entry.specs.Equality.{same_entry, same_result}
use Rattle.cck_entry.specs.Results.{KeyResult}

result_decides : (a b : KeyResult) → Decides (same_result a b) (a ≡ b)
result_decides a b =
    Decides-like (same_result a b) (λ h. λ i. (h.0 i, h.1 i)) (λ e. (ap (λ (r : KeyResult). r.0) e, ap (λ (r : KeyResult). r.1) e))
    (Decides-and _ _ (bytes_decides (a.0) (b.0)) (pointwise_decides include_decides (a.1) (b.1)))

pub entry_decides : (a b : Entry) → Decides (same_entry a b) (a ≡ b)
entry_decides a b = Decides-like (same_entry a b) (same_entries_map a b) (ap entries) (pointwise_decides result_decides (entries a) (entries b))
