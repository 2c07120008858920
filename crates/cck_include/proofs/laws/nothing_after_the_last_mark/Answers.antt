use Rattle.cck_include.proofs.LastMark.{nothing_after_incbin, nothing_after_malformed}
use Rattle.cck_include.proofs.laws.nothing_after_the_last_mark.Goals as goal

pub returns-clause-refusal : goal.returns-clause-refusal
returns-clause-refusal c = nothing_after_incbin

pub returns-clause-malformed : goal.returns-clause-malformed
returns-clause-malformed c = nothing_after_malformed
