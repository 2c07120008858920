use Rattle.std.proofs.Common.{[], ◌++◌, ap, ◌∙◌}
use Rattle.cck_cache_rules.specs.Checksum.{checksum, sum_bytes}
use Rattle.cck_cache_rules.proofs.checksum.checksum.Goals as goal

pub returns : goal.returns
unfolding checksum
returns c =
    (λ i. c.to_le_bytes.ensures i ++ (c.to_le_bytes-2.ensures i ++ (c.to_le_bytes-3.ensures i ++ (c.to_le_bytes-4.ensures i ++ []))))
    ∙ ap sum_bytes c.sums_over-sums.ensures
