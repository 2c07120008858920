use Rattle.std.proofs.Common.{◌≡◌, ◌+◌, rules, suc, sym, subst, Ok, Err, arith}
use Rattle.std.proofs.lemmas.Fn.{always_returns_same}
use Rattle.cck_path.specs.Path.{components, path_cmp}
use Rattle.cck_path.specs.Blocks.{AreOrderedBlocks, IsBlockFor, first_entry_path}
use Rattle.cck_path.proofs.BlockLemmas.{block_found}
use Rattle.cck_path.proofs.blocks.block_for.Goals as goal

pub returns-in-Ok : goal.returns-in-Ok
returns-in-Ok g c =
    let p = components c.args.path.now in
    let whole = c.in-Some.ensures.cases.0 in
    let ordered = subst AreOrderedBlocks whole c.requires.ordered in
    let facts = c.in-Ok.ensures in
    let next : c.in-Ok.at + 1 ≡ suc c.in-Ok.at = omega arith in
    subst (λ bs. IsBlockFor p bs (c.in-Ok.at + 1)) (sym whole)
    (rw next (block_found c.in-Some.field-0-0.now c.in-Some.later.now ordered p (Ok c.in-Ok.at) facts.bound (facts.position (λ b. path_cmp (first_entry_path b.items) p) (always_returns_same _ _ _ (λ a r f called. search rules)))).0)

pub returns-in-Err : goal.returns-in-Err
returns-in-Err g c =
    let p = components c.args.path.now in
    let whole = c.in-Some.ensures.cases.0 in
    let ordered = subst AreOrderedBlocks whole c.requires.ordered in
    let facts = c.in-Err.ensures in
    subst (λ bs. IsBlockFor p bs c.in-Err.at) (sym whole)
    (block_found c.in-Some.field-0-0.now c.in-Some.later.now ordered p (Err c.in-Err.at) facts.bound (facts.position (λ b. path_cmp (first_entry_path b.items) p) (always_returns_same _ _ _ (λ a r f called. search rules)))).1
