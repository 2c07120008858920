use Rattle.std.proofs.lemmas.Result.{MatchResult-weaker}
use Rattle.cck_files.proofs.ReadLemmas.{contents_after}
use Rattle.cck_files.proofs.folder.feed_named.Goals as goal

pub returns-clause-outcome : goal.returns-clause-outcome
returns-clause-outcome g c = MatchResult-weaker c.feed_contents.result c.feed_contents.ensures.outcome
    (λ _ all. contents_after _ g.H.HashState.holds (λ before piece after step. step) _ _ _ _ _ c.in_ok-feed_name.ensures all)
    (λ e refused. refused)
