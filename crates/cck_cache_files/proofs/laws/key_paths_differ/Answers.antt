use Rattle.cck_cache_files.proofs.PathLemmas.{digest_of_path, key_of_path}
use Rattle.cck_cache_files.proofs.laws.key_paths_differ.Goals as goal

pub returns-clause-keys : goal.returns-clause-keys
returns-clause-keys c = key_of_path

pub returns-clause-digests : goal.returns-clause-digests
returns-clause-digests c = digest_of_path
