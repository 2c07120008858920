use Rattle.cck_cache_files.proofs.StateLemmas.{first_other_found, kept_after, kept_unchanged, whole_path}
use Rattle.cck_cache_files.proofs.path_states.PathStates.first_other.Goals as goal

pub returns-in-Some-clause-first : goal.returns-in-Some-clause-first
returns-in-Some-clause-first g c = first_other_found c.first_end.new.self c.args.path.now c.in_ok-end.field-0 c.in-Some.end c.in-Some.is c.in_ok-end.ensures.first

pub returns-clause-first : goal.returns-clause-first
returns-clause-first g c =
    whole_path c.first_end.new.self c.args.path.now c.in_ok-end.field-0 c.state_of.new.self c.in_ok-state_of.field-0 c.in_default.is c.in_ok-end.ensures.first c.in_ok-state_of.ensures.state

pub returns-in_err-state_of-clause-kept : goal.returns-in_err-state_of-clause-kept
returns-in_err-state_of-clause-kept g c = kept_unchanged c.args.self.now c.first_end.new.self c.state_of.new.self c.first_end.ensures.kept c.in_err-state_of.ensures.errors

pub returns-clause-kept : goal.returns-clause-kept
returns-clause-kept g c =
    kept_after c.args.self.now c.first_end.new.self c.state_of.new.self c.args.path.now c.in_ok-state_of.field-0 c.first_end.ensures.kept c.in_ok-state_of.ensures.state
