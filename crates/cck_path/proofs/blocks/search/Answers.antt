use Rattle.std.proofs.Common.{◌≡◌, ◌+◌, ◌-◌, ◌<◌, length, get_or, true, arith, sym, ap, subst, ◌∙◌, Ok, Err}
use Rattle.std.specs.Ordering.{is_lt}
use Rattle.cck_path.specs.Path.{components, path_cmp}
use Rattle.cck_path.proofs.TestLemmas.{less_is}
use Rattle.cck_path.specs.PathMap.{IsGapFor, IsInOrder, IsPlaceOf}
use Rattle.cck_path.proofs.BlockLemmas.{block_in_order, last_block, position_for}
use Rattle.cck_path.proofs.PlaceLemmas.{gap_at_end}
use Rattle.cck_path.proofs.blocks.search.Goals as goal

pub returns-clause-missing : goal.returns-clause-missing
returns-clause-missing g c =
    let bs = c.args.blocks.now in
    let p = components c.args.path.now in
    let k = length bs - 1 in
    let block = c.last_block-item.result in
    let some = c.in-len1-up.len_at_least in
    let range : k < length bs = omega (arith, some) in
    let next : k + 1 ≡ length bs = omega (arith, some) in
    let items : c.as_slice.result.now ≡ (get_or bs k block).items = c.as_slice.ensures.value ∙ ap (λ b. b.items) c.last_block-item.is in
    let size : c.len.result ≡ length (get_or bs k block).items = c.len.ensures ∙ sym c.as_slice.ensures.len ∙ ap length items in
    let below = less_is _ (subst (λ bytes. is_lt (path_cmp (components bytes) p) ≡ true) c.deref.ensures.value
    (ap is_lt (sym c.compare_paths.ensures) ∙ (sym c.is_lt.ensures ∙ c.if-is_lt.true))) in
    let gap = gap_at_end (get_or bs k block).items (block_in_order bs k block c.requires.in_order range) p c.last-item.result
    (subst (λ es. c.last-item.result ≡ get_or es (length es - 1) c.last-item.result) items c.last-item.is) below in
    rw size (position_for bs c.requires p k block (last_block bs c.requires p k block c.last-item.result next gap) (Err (length (get_or bs k block).items)) tt gap)

pub search_block-requires : goal.search_block-requires
search_block-requires g c =
    let k = c.block_for-block.result in
    subst IsInOrder (sym (c.deref-2.ensures.value ∙ ap (λ b. b.items) c.index-blocks-block.is)) (block_in_order c.args.blocks.now k c.index-blocks-block.result c.requires.in_order c.block_for-block.ensures.in_range)

pub returns-in-Ok-clause-found : goal.returns-in-Ok-clause-found
returns-in-Ok-clause-found g c =
    let p = components c.args.path.now in
    let place = subst (λ es. IsPlaceOf p es c.in-Ok.at) (c.deref-2.ensures.value ∙ ap (λ b. b.items) c.index-blocks-block.is) c.in-Ok.ensures.place in
    position_for c.args.blocks.now c.requires p c.block_for-block.result c.index-blocks-block.result c.block_for-block.ensures (Ok c.in-Ok.at) place tt

pub returns-in-Err-clause-missing : goal.returns-in-Err-clause-missing
returns-in-Err-clause-missing g c =
    let p = components c.args.path.now in
    let gap = subst (λ es. IsGapFor p es c.in-Err.at) (c.deref-2.ensures.value ∙ ap (λ b. b.items) c.index-blocks-block.is) c.in-Err.ensures.gap in
    position_for c.args.blocks.now c.requires p c.block_for-block.result c.index-blocks-block.result c.block_for-block.ensures (Err c.in-Err.at) tt gap
