use Rattle.std.proofs.Common.{◌+◌, length, ap, subst, sym, Ok, arith}
use Rattle.std.proofs.lemmas.List.Edits.{length-remove}
use Rattle.cck_path.specs.Path.{components}
use Rattle.cck_path.specs.Blocks.{HasNoEntry, IsPositionFor, entries_of, start_of}
use Rattle.cck_path.specs.PathMap.{IsInOrder}
use Rattle.cck_path.proofs.BlockLemmas.{get_missing}
use Rattle.cck_path.proofs.PlaceLemmas.{get_at, remove_nothing, removed, without_in_order}
use Rattle.cck_path.proofs.path_map.PathMap.remove.Goals as goal

pub remove_at-value-requires-clause-within : goal.remove_at-value-requires-clause-within
remove_at-value-requires-clause-within g c =
    let bs = c.self.inside.blocks.items in
    let p = components c.args.path.now in
    let position : IsPositionFor p bs c.in-Ok.block (Ok c.in-Ok.at) = subst (λ l. IsPositionFor p l c.in-Ok.block (Ok c.in-Ok.at)) c.deref.ensures.value c.in-Ok.ensures.found in
    (position.in_range, λ d. (position.in_block d).0)

pub invariant_of-self : goal.invariant_of-self
invariant_of-self g c =
    let bs = c.self.inside.blocks.items in
    let p = components c.args.path.now in
    let position : IsPositionFor p bs c.in-Ok.block (Ok c.in-Ok.at) = subst (λ l. IsPositionFor p l c.in-Ok.block (Ok c.in-Ok.at)) c.deref.ensures.value c.in-Ok.ensures.found in
    let i = start_of bs c.in-Ok.block + c.in-Ok.at in
    let long = length-remove (entries_of bs) i position.place.in_range in
    let count = c.self.invariant.1 in (
      record { in_order = subst IsInOrder (sym c.remove_at-value.ensures.rest) (without_in_order (entries_of bs) i c.self.invariant.0.in_order); none_empty = c.remove_at-value.ensures.none_empty },
      omega (arith, long, count, ap length c.remove_at-value.ensures.rest),
    )

pub returns-in-Ok-clause-value : goal.returns-in-Ok-clause-value
returns-in-Ok-clause-value g c =
    let bs = c.self.inside.blocks.items in
    let p = components c.args.path.now in
    let position : IsPositionFor p bs c.in-Ok.block (Ok c.in-Ok.at) = subst (λ l. IsPositionFor p l c.in-Ok.block (Ok c.in-Ok.at)) c.deref.ensures.value c.in-Ok.ensures.found in
    rw (← c.self.view_is)
    (get_at (entries_of bs) c.self.invariant.0.in_order p (start_of bs c.in-Ok.block + c.in-Ok.at) position.place c.remove_at-value.result c.remove_at-value.ensures.entry)

pub returns-in-Ok-clause-rest : goal.returns-in-Ok-clause-rest
returns-in-Ok-clause-rest g c =
    let bs = c.self.inside.blocks.items in
    let p = components c.args.path.now in
    let position : IsPositionFor p bs c.in-Ok.block (Ok c.in-Ok.at) = subst (λ l. IsPositionFor p l c.in-Ok.block (Ok c.in-Ok.at)) c.deref.ensures.value c.in-Ok.ensures.found in
    rw (c.remove_at-value.ensures.rest, ← c.self.view_is)
    (removed (entries_of bs) c.self.invariant.0.in_order p (start_of bs c.in-Ok.block + c.in-Ok.at) position.place)

pub returns-in-Err-clause-value : goal.returns-in-Err-clause-value
returns-in-Err-clause-value g c =
    let bs = c.self.inside.blocks.items in
    let p = components c.args.path.now in
    let missing : HasNoEntry p bs c.in-Err.field-0 = subst (λ l. HasNoEntry p l c.in-Err.field-0) c.deref.ensures.value c.in-Err.ensures.missing in
    rw (← c.self.view_is) (get_missing bs c.self.invariant.0 p c.in-Err.field-0 missing)

pub returns-in-Err-clause-rest : goal.returns-in-Err-clause-rest
returns-in-Err-clause-rest g c = remove_nothing c.args.self.now (components c.args.path.now) (returns-in-Err-clause-value g c)
