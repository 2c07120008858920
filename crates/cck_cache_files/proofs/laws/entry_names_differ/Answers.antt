use Rattle.cck_cache_files.proofs.PathLemmas.{place_of_name}
use Rattle.cck_cache_files.proofs.laws.entry_names_differ.Goals as goal

pub returns : goal.returns
returns c = place_of_name
