use Rattle.std.proofs.Common.{subst, Some}
use Rattle.std.specs.Cmp.{booleans_Decides}
use Rattle.std.specs.Cmp.Lexicographic.{bytes_decides}
use Rattle.std.specs.Prelude.{Contains}
use Rattle.cck_hasher.specs.SeenNames.{names_in}
use Rattle.cck_hasher.proofs.SeenLemmas.{found}
use Rattle.cck_hasher.proofs.seen.SeenNames.contains.Goals as goal

pub returns-then-seen-is_system : goal.returns-then-seen-is_system
returns-then-seen-is_system c = λ same.
    let name = (bytes_decides c.in-Some.seen.name.now c.args.name.now).0 (rw c.eq.ensures at same) in
    let flag = (booleans_Decides c.in-Some.seen.is_system c.args.is_system).0 c.if-seen-is_system.true in
    subst (λ n. Contains (names_in c.args.self.now) (Some n)) (λ i. (name i, flag i)) (found c.args.self.now.slots c.slot_of.result c.in-Some.seen c.in-Some.is)
