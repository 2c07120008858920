use Rattle.std.proofs.Common.{[]}
use Rattle.cck_files.proofs.ReadLemmas.{holds_of_contents}
use Rattle.cck_files.specs.FileMap.{contents_at}
use Rattle.cck_include.proofs.RecordedLemmas.{ok_by}
use Rattle.cck_path.specs.Path.{components}
use Rattle.cck_include.proofs.recorded.contents_text.Goals as goal

pub returns-in-Ok-clause-outcome : goal.returns-in-Ok-clause-outcome
returns-in-Ok-clause-outcome g c =
    let F = g.F.Files in
    ok_by (contents_at (F.file_map c.args.files.now) (components c.args.path.now)) _ _
    (λ contents taken.
    c.in-Ok.ensures.text contents (holds_of_contents _ g.H.HashState.holds (λ before piece after step. step) _ _ contents taken [] c.new-digest.ensures))
    c.in_ok-feed_file_of_size.ensures.outcome
