use Rattle.cck_files.proofs.ArmedLemmas.{armed_fail}
use Rattle.cck_files.proofs.laws.calls_fail_as_armed.Goals as goal

pub returns : goal.returns
returns c = armed_fail
