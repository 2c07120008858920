use Rattle.std.proofs.Common.{◌≡◌, ◌+◌, ◌∙◌, List, Global, ℕ, ap, get_or, subst, Err}
use Rattle.std.proofs.Math.ListN.{set}
use Rattle.std.specs.List as list
use Rattle.std.specs.Prelude.{Vec}
use Rattle.cck_path.specs.Path.{Path, components}
use Rattle.cck_path.specs.Blocks.{HasNoEntry, IsPositionFor, entries_of, place_of, start_of}
use Rattle.cck_path.specs.declared.path_map.Entry.{Entry}
use Rattle.cck_path.proofs.BlockLemmas.{insert_in, on_err, same_in}
use Rattle.cck_path.proofs.blocks.insert_at.Goals as goal

pub returns-in_err-insert-in-Some-clause-kept : goal.returns-in_err-insert-in-Some-clause-kept
returns-in_err-insert-in-Some-clause-kept g c =
    let bs = c.args.blocks.now.items in
    let position : IsPositionFor (components c.args.entry.path.items) bs c.in-Some.block (Err c.in-Some.at) = subst (HasNoEntry (components c.args.entry.path.items) bs) c.in-Some.is c.requires.missing in
    on_err c.from_residual.result _ (same_in bs c.in-Some.block c.index_mut.result.now c.insert.new.self position.in_range (c.in_err-insert-in-Some.ensures.items ∙ ap (λ b. b.items) c.index_mut.ensures.value))

inserted : {V : Type 0} (bs : List (Vec (Entry V) Global)) (p : Path) (k j : ℕ) → IsPositionFor p bs k (Err j) → (old new : Vec (Entry V) Global) (e : Entry V) → old ≡ get_or bs k old → new.items ≡ list.insert old.items j e
    → entries_of (set bs k new) ≡ list.insert (entries_of bs) (start_of bs k + j) e
inserted bs p k j position old new e at items = insert_in bs k j old new e position.in_range (position.in_block old).1 (items ∙ ap (λ b. list.insert b.items j e) at)

pub returns-then-len-gt-BLOCK_LIMIT-clause-inserted : goal.returns-then-len-gt-BLOCK_LIMIT-clause-inserted
returns-then-len-gt-BLOCK_LIMIT-clause-inserted g c =
    let bs = c.args.blocks.now.items in
    let p = components c.args.entry.path.items in
    rw (ap (place_of bs) c.in-Some.is) (c.split.ensures.same
    ∙ inserted bs p c.in-Some.block c.in-Some.at (subst (HasNoEntry p bs) c.in-Some.is c.requires.missing) c.index_mut.result.now c.insert.new.self c.args.entry c.index_mut.ensures.value c.in_ok-insert-in-Some.ensures.items)

pub returns-else-len-gt-BLOCK_LIMIT-clause-inserted : goal.returns-else-len-gt-BLOCK_LIMIT-clause-inserted
returns-else-len-gt-BLOCK_LIMIT-clause-inserted g c =
    let bs = c.args.blocks.now.items in
    let p = components c.args.entry.path.items in
    rw (ap (place_of bs) c.in-Some.is)
    (inserted bs p c.in-Some.block c.in-Some.at (subst (HasNoEntry p bs) c.in-Some.is c.requires.missing) c.index_mut.result.now c.insert.new.self c.args.entry c.index_mut.ensures.value c.in_ok-insert-in-Some.ensures.items)
