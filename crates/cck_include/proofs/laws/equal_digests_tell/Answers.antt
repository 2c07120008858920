use Rattle.cck_include.proofs.LawLemmas.{equal_digests_tell}
use Rattle.cck_include.proofs.laws.equal_digests_tell.Goals as goal

pub returns : goal.returns
returns c = equal_digests_tell
