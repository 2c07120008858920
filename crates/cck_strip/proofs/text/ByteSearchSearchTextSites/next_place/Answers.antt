use Rattle.std.proofs.Common.{◌∙◌, ◌+◌, ◌<◌, length, rules, sym, arith}
use Rattle.cck_strip.proofs.ByteLemmas.{Left-next, Left-none, Left-place}
use Rattle.cck_strip.proofs.SoughtLemmas.{text_site-inside}
use Rattle.cck_strip.proofs.text.ByteSearchSearchTextSites.next_place.Goals as goal

pub overflow_add-from : goal.overflow_add-from
overflow_add-from c =
    let next = Left-place _ _ _ _ _ _ _ c.requires.finds c.loop-distance.invariant c.in-Some.ensures.steps in
    let within : c.args.from + c.in-Some.distance < length c.args.sites.now.text.now = next.within in
    search rules

pub is_boundary-requires : goal.is_boundary-requires
is_boundary-requires c =
    let next = Left-place _ _ _ _ _ _ _ c.requires.finds c.loop-distance.invariant c.in-Some.ensures.steps in
    let within = next.within in
    omega arith

pub returns-then-is_boundary : goal.returns-then-is_boundary
returns-then-is_boundary c = Left-place _ _ _ _ _ _ _ c.requires.finds c.loop-distance.invariant c.in-Some.ensures.steps

pub loop-distance-preserved : goal.loop-distance-preserved
loop-distance-preserved c =
    Left-next _ _ _ _ _ _ _ c.requires.finds c.loop-distance.invariant c.in-Some.ensures.steps
    (text_site-inside _ _ _ (sym c.is_boundary.ensures ∙ c.if-is_boundary.false))

pub returns : goal.returns
returns c = Left-none _ _ _ _ _ c.requires.finds c.loop-distance.invariant c.in_default.ensures.steps.0
