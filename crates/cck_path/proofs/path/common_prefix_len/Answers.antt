use Rattle.std.proofs.Common.{length, drop, ap, arith, nat_eq}
use Rattle.std.proofs.lemmas.List.{drop_all}
use Rattle.std.proofs.lemmas.List.Sums.{common_prefix_len-le}
use Rattle.cck_path.proofs.path.common_prefix_len.Goals as goal

-- at the end of the second text
pub returns-else-at-b-clause-count : goal.returns-else-at-b-clause-count
returns-else-at-b-clause-count c =
    let i = c.loop-at.at in
    let b = c.args.b.now in
    let none = ap length (drop_all i b (search arith)) in
    omega (arith, c.loop-at.invariant.2, (common_prefix_len-le nat_eq (drop i c.args.a.now) (drop i b)).1, none)
