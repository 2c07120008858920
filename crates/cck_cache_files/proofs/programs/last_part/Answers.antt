use Rattle.cck_cache_files.proofs.ProgramLemmas as lemmas
use Rattle.cck_cache_files.proofs.programs.last_part.Goals as goal

pub returns-in-Some : goal.returns-in-Some
returns-in-Some c = lemmas.last_part c.args.path.now _ c.in-Some.name.now c.in-Some.ensures.cases

pub returns-in-None : goal.returns-in-None
returns-in-None c = lemmas.whole_part c.args.path.now c.in-None.ensures.cases
