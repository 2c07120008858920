use Rattle.cck_cache_files.proofs.StateLemmas.{no_other, other_found}
use Rattle.cck_cache_files.proofs.path_states.PathStates.has_other.Goals as goal

pub returns-in-Some-clause-other : goal.returns-in-Some-clause-other
returns-in-Some-clause-other g c = other_found c.first_end.new.self c.args.path.now c.in_ok-first_end.field-0 c.in-Some.field-0 c.in-Some.is c.in_ok-first_end.ensures.first

pub returns-in-None-clause-other : goal.returns-in-None-clause-other
returns-in-None-clause-other g c = no_other c.first_end.new.self c.args.path.now c.in_ok-first_end.field-0 c.in-None.is c.in_ok-first_end.ensures.first
