use Rattle.cck_files.proofs.CallsLemmas.{no_calls}
use Rattle.cck_hasher.proofs.WalkLemmas.{none_asked}
use Rattle.cck_hasher.specs.Decided.{IsAskedFor}
use Rattle.cck_hasher.proofs.laws.nothing_is_asked.Goals as goal

pub returns-clause-path : goal.returns-clause-path
returns-clause-path g c = none_asked

pub returns-clause-files : goal.returns-clause-files
returns-clause-files g c = λ x text none before after calls. no_calls (IsAskedFor x text) before after (none_asked x text none) calls
