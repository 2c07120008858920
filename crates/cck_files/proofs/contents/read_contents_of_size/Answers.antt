use Rattle.cck_files.proofs.ReadLemmas.{contents_read}
use Rattle.cck_files.proofs.contents.read_contents_of_size.Goals as goal

pub returns-clause-outcome : goal.returns-clause-outcome
returns-clause-outcome g c = contents_read _ _ _ c.new-contents.ensures.items c.in_ok-feed_file_of_size.ensures.outcome
