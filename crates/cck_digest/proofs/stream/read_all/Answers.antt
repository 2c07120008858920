use Rattle.std.proofs.Common.{◌≡◌, ◌++◌, ap, ◌∙◌}
use Rattle.cck_digest.proofs.StreamLemmas.{holds_of_stream}
use Rattle.cck_digest.proofs.stream.read_all.Goals as goal

pub returns-clause-text : goal.returns-clause-text
returns-clause-text g c =
    holds_of_stream _ (λ vec fed. vec.items ≡ fed) (λ before piece after step fed h. step ∙ ap (λ x. x ++ piece) h) _ _ _
    c.in_ok-read_to_end.ensures.taken c.new-text.ensures.items
