use Rattle.std.proofs.Common.{◌≡◌, Global, ℕ, List, sym, ap, subst, ◌∙◌, ◌+◌, ◌<◌, ◌++◌, ◌/◌, length, get_or, take, arith}
use Rattle.std.proofs.Math.ListN.{set}
use Rattle.std.proofs.lemmas.List.{get_or_default, take-append-drop}
use Rattle.std.proofs.lemmas.List.Edits.{get_or-insert_below}
use Rattle.std.specs.List as list
use Rattle.std.specs.Prelude.{Vec}
use Rattle.cck_path.specs.Blocks.{NoneEmpty, entries_of}
use Rattle.cck_path.specs.declared.path_map.Entry.{Entry}
use Rattle.cck_path.proofs.BlockLemmas.{cut_in, some_cut, undone}
use Rattle.cck_path.proofs.blocks.split.Goals as goal

module _ {V : Type 0} (bs : List (Vec (Entry V) Global)) (k : ℕ) (inside : k < length bs) (empty block : Vec (Entry V) Global) (more : List (Vec (Entry V) Global)) (is : more ≡ list.insert bs (k + 1) empty) (at : block ≡ get_or more k block) where
  -- the block is as it was before one was put in after it
  as_before : block ≡ get_or bs k block
  as_before = at ∙ ap (λ l. get_or l k block) is ∙ get_or-insert_below bs (k + 1) empty block k (omega arith) (omega arith)

  -- without memory the blocks are as they were
  restored : (same : Vec (Entry V) Global) → same ≡ block → (new : List (Vec (Entry V) Global)) → new ≡ list.remove (set more k same) (k + 1) → new ≡ bs
  restored same unchanged new removed =
      removed
      ∙ ap (λ l. list.remove (set l k same) (k + 1)) is
      ∙ ap (λ b. list.remove (set (list.insert bs (k + 1) empty) k b) (k + 1)) unchanged
      ∙ undone bs k empty block inside as_before

pub returns-in-Ok-split_off-clause-same : goal.returns-in-Ok-split_off-clause-same
returns-in-Ok-split_off-clause-same g c =
    let bs = c.args.blocks.now.items in
    let k = c.args.block in
    let x = c.index_mut.result.now in
    let same = as_before bs k c.requires.many.0 c.new.result x _ c.in-Ok.ensures.items c.index_mut.ensures.value in
    let m = c.len-middle.result / 2 in
    let rest = c.in-Ok-split_off.rest in
    rw c.in-Ok.ensures.items
    (cut_in bs k x c.new.result c.split_off.new.self rest c.requires.many.0
    (ap (λ b. b.items) (sym same) ∙ sym (ap (λ f. f ++ rest.items) c.in-Ok-split_off.ensures.items ∙ ap (λ r. take m x.items ++ r) c.in-Ok-split_off.ensures.tail ∙ take-append-drop m x.items)))

pub returns-in-Ok-split_off-clause-none_empty : goal.returns-in-Ok-split_off-clause-none_empty
returns-in-Ok-split_off-clause-none_empty g c =
    let bs = c.args.blocks.now.items in
    let k = c.args.block in
    let x = c.index_mut.result.now in
    let same = as_before bs k c.requires.many.0 c.new.result x _ c.in-Ok.ensures.items c.index_mut.ensures.value in
    let rest = c.in-Ok-split_off.rest in
    let many : 1 < length x.items = subst (λ b. 1 < length b.items) (sym same) (c.requires.many.1 x) in
    let long : length c.index.result.now.items ≡ length x.items = ap (λ b. length b.items) (c.index.ensures ∙ get_or_default bs k c.index.result.now x c.requires.many.0 ∙ sym same) in
    rw c.in-Ok.ensures.items
    (some_cut bs k c.new.result c.split_off.new.self rest c.requires.none_empty c.requires.many.0
    (omega (arith, c.in-Ok-split_off.ensures.len, c.split_off.new.self.ok.0, many, long, c.len-middle.ensures, c.index.result.now.ok.0))
    (omega (arith, c.in-Ok-split_off.ensures.tail_len, rest.ok.0, x.ok.0, many, long, c.len-middle.ensures, c.index.result.now.ok.0)))

pub returns-in-Err-clause-same : goal.returns-in-Err-clause-same
returns-in-Err-clause-same g c =
    ap entries_of (restored c.args.blocks.now.items c.args.block c.requires.many.0 c.new.result c.index_mut.result.now _ c.in-Ok.ensures.items c.index_mut.ensures.value c.split_off.new.self c.in-Err.ensures.err _ c.remove.ensures.items)

pub returns-in-Err-clause-none_empty : goal.returns-in-Err-clause-none_empty
returns-in-Err-clause-none_empty g c =
    subst NoneEmpty (sym (restored c.args.blocks.now.items c.args.block c.requires.many.0 c.new.result c.index_mut.result.now _ c.in-Ok.ensures.items c.index_mut.ensures.value c.split_off.new.self c.in-Err.ensures.err _ c.remove.ensures.items)) c.requires.none_empty
