use Rattle.std.proofs.Common.{sym, ap, ◌∙◌, ◌<◌, length, arith}
use Rattle.std.proofs.Math.ListN.{set}
use Rattle.std.proofs.lemmas.List.{length-set}
use Rattle.std.specs.List as list
use Rattle.cck_path.specs.Blocks.{entries_of}
use Rattle.cck_path.proofs.BlockLemmas.{entry_is, none_of, remove_empty, remove_in}
use Rattle.cck_path.proofs.blocks.remove_at.Goals as goal

pub returns-then-is_empty-clause-entry : goal.returns-then-is_empty-clause-entry
returns-then-is_empty-clause-entry g c =
    entry_is c.args.blocks.now.items c.args.block c.args.at c.index_mut.result.now c.remove-entry.result c.requires.within.0 c.index_mut.ensures.value (c.requires.within.1 c.index_mut.result.now) c.remove-entry.ensures.value

pub returns-then-is_empty-clause-rest : goal.returns-then-is_empty-clause-rest
returns-then-is_empty-clause-rest g c =
    let bs = c.args.blocks.now.items in
    let inside : c.args.block < length (set bs c.args.block c.remove-entry.new.self) = rw (length-set bs c.args.block c.remove-entry.new.self) c.requires.within.0 in
    ap entries_of c.remove.ensures.items
    ∙ remove_empty (set bs c.args.block c.remove-entry.new.self) c.args.block c.index.result.now inside
    (ap (λ b. b.items) (sym c.index.ensures) ∙ none_of c.index.result.now.items c.index.result.now.len (omega (arith, c.index.result.now.ok.0)) (sym c.is_empty.ensures ∙ c.if-is_empty.true))
    ∙ remove_in bs c.args.block c.args.at c.index_mut.result.now c.remove-entry.new.self c.requires.within.0 (c.requires.within.1 c.index_mut.result.now)
    (c.remove-entry.ensures.items ∙ ap (λ b. list.remove b.items c.args.at) c.index_mut.ensures.value)

pub returns-else-is_empty-clause-entry : goal.returns-else-is_empty-clause-entry
returns-else-is_empty-clause-entry g c =
    entry_is c.args.blocks.now.items c.args.block c.args.at c.index_mut.result.now c.remove-entry.result c.requires.within.0 c.index_mut.ensures.value (c.requires.within.1 c.index_mut.result.now) c.remove-entry.ensures.value

pub returns-else-is_empty-clause-rest : goal.returns-else-is_empty-clause-rest
returns-else-is_empty-clause-rest g c =
    remove_in c.args.blocks.now.items c.args.block c.args.at c.index_mut.result.now c.remove-entry.new.self c.requires.within.0 (c.requires.within.1 c.index_mut.result.now)
    (c.remove-entry.ensures.items ∙ ap (λ b. list.remove b.items c.args.at) c.index_mut.ensures.value)
