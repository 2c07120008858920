use Rattle.cck_cache_files.proofs.ProgramLemmas.{list_of_path}
use Rattle.cck_cache_files.proofs.laws.list_paths_differ.Goals as goal

pub returns : goal.returns
returns c = list_of_path
