use Rattle.cck_cache_files.proofs.StateLemmas.{KeepsStates-trans}
use Rattle.cck_cache_files.proofs.snapshot.leads_there.Goals as goal

pub returns-then-branch-clause-kept : goal.returns-then-branch-clause-kept
returns-then-branch-clause-kept g c = KeepsStates-trans c.args.states.now c.first_other.new.self c.has_other.new.self c.first_other.ensures.kept c.has_other.ensures.kept

pub returns-clause-kept : goal.returns-clause-kept
returns-clause-kept g c = KeepsStates-trans c.args.states.now c.first_other.new.self c.has_other.new.self c.first_other.ensures.kept c.has_other.ensures.kept

pub returns-in_err-has_other-clause-kept : goal.returns-in_err-has_other-clause-kept
returns-in_err-has_other-clause-kept g c =
    KeepsStates-trans c.args.states.now c.first_other.new.self c.has_other.new.self c.first_other.ensures.kept c.has_other.ensures.kept
