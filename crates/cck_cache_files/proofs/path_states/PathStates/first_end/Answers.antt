use Rattle.std.proofs.Common.{refl}
use Rattle.cck_cache_files.specs.PathStates.{LeadsOnBy}
use Rattle.cck_cache_files.proofs.StateLemmas.{first_end, kept_after, kept_unchanged, way_begins, way_ends, way_goes_on, way_passes}
use Rattle.cck_cache_files.proofs.path_states.PathStates.first_end.Goals as goal

pub loop-place-init : goal.loop-place-init
loop-place-init g c = way_begins (LeadsOnBy c.args.links) c.args.self.now c.args.path.now

pub loop-place-preserved-then-not-ends_at : goal.loop-place-preserved-then-not-ends_at
loop-place-preserved-then-not-ends_at g c =
    way_passes (LeadsOnBy c.args.links) c.args.self.now c.loop-place.self c.args.path.now c.loop-place.place c.loop-place.invariant c.if-not-ends_at.ensures

pub returns-then-not-leads_on-clause-first : goal.returns-then-not-leads_on-clause-first
returns-then-not-leads_on-clause-first g c =
    first_end c.args.links c.args.self.now c.loop-place.self c.state_of.new.self c.args.path.now _ c.loop-place.place c.in_ok-state.state
    refl c.loop-place-test.true c.loop-place.invariant c.if-not-ends_at.ensures c.in_ok-state.ensures.state c.if-not-leads_on.ensures

pub returns-then-not-leads_on-clause-kept : goal.returns-then-not-leads_on-clause-kept
returns-then-not-leads_on-clause-kept g c =
    kept_after c.args.self.now c.loop-place.self c.state_of.new.self _ c.in_ok-state.state c.loop-place.invariant.keeps c.in_ok-state.ensures.state

pub loop-place-preserved : goal.loop-place-preserved
loop-place-preserved g c =
    way_goes_on (LeadsOnBy c.args.links) c.args.self.now c.loop-place.self c.state_of.new.self c.args.path.now c.loop-place.place c.in_ok-state.state
    c.loop-place.invariant c.in_ok-state.ensures.state c.if-not-leads_on.ensures

pub returns-clause-first : goal.returns-clause-first
returns-clause-first g c =
    way_ends (LeadsOnBy c.args.links) c.args.self.now c.loop-place.self c.args.path.now c.loop-place.place c.loop-place-test.false c.loop-place.invariant

pub returns-in_err-state-clause-kept : goal.returns-in_err-state-clause-kept
returns-in_err-state-clause-kept g c = kept_unchanged c.args.self.now c.loop-place.self c.state_of.new.self c.loop-place.invariant.keeps c.in_err-state.ensures.errors

pub returns-clause-kept : goal.returns-clause-kept
returns-clause-kept g c = c.loop-place.invariant.keeps
