use Rattle.std.proofs.Common.{◌∙◌, refl, sym}
use Rattle.cck_hasher.proofs.IncludedLemmas.{taken_all, taken_more}
use Rattle.cck_hasher.specs.Included.{digested_of}
use Rattle.cck_hasher.proofs.included.included_of.Goals as goal

pub loop-path-init : goal.loop-path-init
loop-path-init c = rw (c.new-included.ensures.items, c.into_iter-path-iterator.ensures.into_iter_gives.0) refl

pub loop-path-preserved : goal.loop-path-preserved
loop-path-preserved c =
    rw (c.in_ok-push.ensures.items)
    (taken_more c.loop-path.included.items (digested_of c.args.files.items) c.in-Some.path c.in-Some.digest c.loop-path.path-iterator.rest.items c.next.new.self.rest.items c.in-Some.ensures.steps.0 c.loop-path.invariant)

pub returns : goal.returns
returns c = taken_all c.loop-path.included.items (digested_of c.args.files.items) c.loop-path.path-iterator.rest.items (sym (c.loop-path.path-iterator.rest.ok.0) ∙ c.in-None.ensures.steps.0) c.loop-path.invariant
