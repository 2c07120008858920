use Rattle.cck_cache_files.proofs.ProgramLemmas.{line_by_contains}
use Rattle.cck_cache_files.proofs.programs.is_line.Goals as goal

pub returns : goal.returns
returns c = line_by_contains c.args.text.now c.contains.result c.contains.ensures.cases
