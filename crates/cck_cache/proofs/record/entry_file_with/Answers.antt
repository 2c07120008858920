use Rattle.cck_cache_rules.specs.PathStatus.{statuses_of}
use Rattle.cck_cache.proofs.record.entry_file_with.Goals as goal

pub returns : goal.returns
returns g c = (statuses_of c.add_directory_statuses.new.statuses.items, c.in_ok-add_directory_statuses.ensures, c.entry_file_of.ensures)
