use Rattle.std.proofs.Common.{◌+◌, ◌<◌, length, subst, sym, Ok, arith}
use Rattle.cck_path.specs.Path.{components}
use Rattle.cck_path.specs.Blocks.{HasNoEntry, IsPositionFor, entries_of, start_of}
use Rattle.cck_path.proofs.BlockLemmas.{entry_is, get_missing}
use Rattle.cck_path.proofs.PlaceLemmas.{get_at}
use Rattle.cck_path.proofs.path_map.PathMap.get.Goals as goal

pub index-requires : goal.index-requires
index-requires g c =
    let bs = c.self.inside.blocks.items in
    let p = components c.args.path.now in
    let position : IsPositionFor p bs c.in-Ok.block (Ok c.in-Ok.at) = subst (λ l. IsPositionFor p l c.in-Ok.block (Ok c.in-Ok.at)) c.deref.ensures.value c.in-Ok.ensures.found in
    omega (arith, position.in_range, c.self.inside.blocks.ok.0)

pub index-requires-in-Ok : goal.index-requires-in-Ok
index-requires-in-Ok g c =
    let bs = c.self.inside.blocks.items in
    let p = components c.args.path.now in
    let position : IsPositionFor p bs c.in-Ok.block (Ok c.in-Ok.at) = subst (λ l. IsPositionFor p l c.in-Ok.block (Ok c.in-Ok.at)) c.deref.ensures.value c.in-Ok.ensures.found in
    let within : c.in-Ok.at < length c.index.result.now.items = subst (λ b. c.in-Ok.at < length b.items) (sym c.index.ensures) (position.in_block c.index.result.now).0 in
    omega (arith, within, c.index.result.now.ok.0)

pub returns-in-Ok : goal.returns-in-Ok
returns-in-Ok g c =
    let bs = c.self.inside.blocks.items in
    let p = components c.args.path.now in
    let position : IsPositionFor p bs c.in-Ok.block (Ok c.in-Ok.at) = subst (λ l. IsPositionFor p l c.in-Ok.block (Ok c.in-Ok.at)) c.deref.ensures.value c.in-Ok.ensures.found in
    rw (← c.self.view_is)
    (get_at (entries_of bs) c.self.invariant.0.in_order p (start_of bs c.in-Ok.block + c.in-Ok.at) position.place c.index-in-Ok.result.now
    (entry_is bs c.in-Ok.block c.in-Ok.at c.index.result.now c.index-in-Ok.result.now position.in_range c.index.ensures (position.in_block c.index.result.now).0 c.index-in-Ok.ensures))

pub returns-in-Err : goal.returns-in-Err
returns-in-Err g c =
    let bs = c.self.inside.blocks.items in
    let p = components c.args.path.now in
    let missing : HasNoEntry p bs c.in-Err.field-0 = subst (λ l. HasNoEntry p l c.in-Err.field-0) c.deref.ensures.value c.in-Err.ensures.missing in
    rw (← c.self.view_is) (get_missing bs c.self.invariant.0 p c.in-Err.field-0 missing)
