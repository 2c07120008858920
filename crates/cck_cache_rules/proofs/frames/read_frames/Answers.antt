use Rattle.std.proofs.Common.{◌≡◌, [], ◌++◌, length, map, arith, sym, ◌∙◌, ap}
use Rattle.std.specs.List.{flat_map}
use Rattle.std.proofs.lemmas.List.{append-nil, length-append}
use Rattle.cck_digest.specs.Frames.{frame}
use Rattle.cck_cache_rules.proofs.ReadingLemmas.{empty, frames_found, no_frames, not_empty, length-frame}
use Rattle.cck_cache_rules.proofs.frames.read_frames.Goals as goal

pub returns-in_default : goal.returns-in_default
returns-in_default c =
    no_frames c.args.bytes.now c.loop-rest.rest.now (map (λ p. p.now) c.loop-rest.all.items) c.loop-rest.invariant (not_empty c.loop-rest.rest.now (sym c.is_empty.ensures ∙ c.loop-rest-test.true)) c.in_default.ensures

pub loop-rest-smaller : goal.loop-rest-smaller
loop-rest-smaller c =
    let found = c.in-Some.frame.now in
    let after = c.in-Some.after.now in
    omega (arith, ap length c.in-Some.ensures.0, length-append (frame found) after, length-frame found)

pub returns : goal.returns
returns c =
    let done = map (λ p. p.now) c.loop-rest.all.items in
    let none : c.loop-rest.rest.now ≡ [] = empty c.loop-rest.rest.now (sym c.is_empty.ensures ∙ c.loop-rest-test.false) in
    frames_found c.args.bytes.now done (c.loop-rest.invariant ∙ (ap (λ r. flat_map frame done ++ r) none ∙ append-nil (flat_map frame done)))
