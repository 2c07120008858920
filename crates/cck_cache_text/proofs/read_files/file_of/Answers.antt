use Rattle.cck_cache_text.proofs.ReadLemmas.{directory_within}
use Rattle.cck_cache_text.proofs.read_files.file_of.Goals as goal

pub split_at-requires : goal.split_at-requires
split_at-requires c = rw c.directory_of.ensures (directory_within c.args.name.now)
