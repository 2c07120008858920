use Rattle.cck_cache_files.proofs.ProgramLemmas.{starts_line}
use Rattle.cck_cache_files.proofs.programs.first_line.Goals as goal

pub returns : goal.returns
returns c = starts_line c.args.text.now c.split_once.result c.split_once.ensures.cases
