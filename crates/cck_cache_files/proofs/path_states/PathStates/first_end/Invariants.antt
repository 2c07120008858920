use Rattle.cck_cache_files.specs.PathStates.{LeadsOnBy}
use Rattle.cck_cache_files.proofs.StateLemmas.{OnTheWay}
use Rattle.cck_cache_files.proofs.path_states.PathStates.first_end.Given as goal

-- all paths so far lead on
abbrev pub invariant-loop-place : goal.invariant-loop-place
invariant-loop-place g l = OnTheWay (LeadsOnBy l.links) l.fn.self l.self l.path l.place
