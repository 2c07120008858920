use Rattle.cck_files.proofs.Membership.{reached_is_sorted}
use Rattle.cck_files.proofs.laws.reached_tells.Goals as goal

pub returns : goal.returns
returns c = reached_is_sorted
