use Rattle.std.proofs.Common.{◌+◌, ◌∙◌, ap, drop, map, subst, sym, Err, Ok}
use Rattle.std.specs.FinMap as finite
use Rattle.cck_path.specs.Path.{components, path_cmp}
use Rattle.cck_path.specs.Blocks.{HasNoEntry, IsPositionFor, entries_of, start_of}
use Rattle.cck_path.specs.PathMap.{pair_of, part_from}
use Rattle.cck_path.proofs.FromLemmas.{cut_at_gap, cut_at_place, cut_of_none, part_is}
use Rattle.cck_path.proofs.path_map.PathMap.entries_from.Goals as goal

pub returns-in-Ok : goal.returns-in-Ok
returns-in-Ok g c =
    let bs = c.self.inside.blocks.items in
    let p = components c.args.path.now in
    let order = c.self.invariant.0.in_order in
    let position : IsPositionFor p bs c.in-Ok.block (Ok c.in-Ok.at) = subst (λ l. IsPositionFor p l c.in-Ok.block (Ok c.in-Ok.at)) c.deref.ensures.value c.in-Ok.ensures.found in
    let place = start_of bs c.in-Ok.block + c.in-Ok.at in
    ap (map pair_of) (c.entries_at.ensures ∙ ap (λ l. drop (start_of l c.in-Ok.block + c.in-Ok.at) (entries_of l)) c.deref-in-Ok.ensures.value)
    ∙ part_is (entries_of bs) order p place (cut_at_place (entries_of bs) order p place position.place)
    ∙ ap (λ m. finite.entries (part_from p m)) c.self.view_is

pub returns-in-Err-Some : goal.returns-in-Err-Some
returns-in-Err-Some g c =
    let bs = c.self.inside.blocks.items in
    let p = components c.args.path.now in
    let gap : IsPositionFor p bs c.in-Err-Some.block (Err c.in-Err-Some.at) = rw c.in-Err-Some.field-0-is at (subst (λ l. HasNoEntry p l c.in-Err-Some.field-0) c.deref.ensures.value c.in-Err-Some.ensures.missing) in
    let place = start_of bs c.in-Err-Some.block + c.in-Err-Some.at in
    ap (map pair_of) (c.entries_at-in-Err-Some.ensures ∙ ap (λ l. drop (start_of l c.in-Err-Some.block + c.in-Err-Some.at) (entries_of l)) c.deref-in-Err-Some.ensures.value)
    ∙ part_is (entries_of bs) c.self.invariant.0.in_order p place (cut_at_gap (entries_of bs) p place gap.gap)
    ∙ ap (λ m. finite.entries (part_from p m)) c.self.view_is

pub returns-in-Err-None : goal.returns-in-Err-None
returns-in-Err-None g c =
    let bs = c.self.inside.blocks.items in
    let p = components c.args.path.now in
    let order = c.self.invariant.0.in_order in
    let none = rw c.in-Err-None.field-0-is at (subst (λ l. HasNoEntry p l c.in-Err-None.field-0) c.deref.ensures.value c.in-Err-None.ensures.missing) in
    c.entries.ensures
    ∙ ap finite.entries (sym c.self.view_is)
    ∙ finite.entries-from_sorted path_cmp (map pair_of (entries_of bs)) order
    ∙ part_is (entries_of bs) order p 0 (cut_of_none (entries_of bs) p (ap entries_of none))
    ∙ ap (λ m. finite.entries (part_from p m)) c.self.view_is
