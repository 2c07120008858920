use Rattle.std.proofs.Common.{[], sym, subst}
use Rattle.cck_digest.proofs.HasLemmas.{has_iff}
use Rattle.cck_digest.specs.TimeMacros.{Follows, Has, date_macro, time_macro, timestamp_macro}
use Rattle.cck_files.proofs.ReadLemmas.{holds_of_contents}
use Rattle.cck_files.specs.FileMap.{contents_at}
use Rattle.cck_include.proofs.RecordedLemmas.{ok_by, same_test}
use Rattle.cck_include.specs.Recorded.{has_date, has_time, has_timestamp}
use Rattle.cck_path.specs.Path.{components}
use Rattle.cck_include.proofs.recorded.read_once.Goals as goal

pub returns-clause-outcome : goal.returns-clause-outcome
unfolding has_time has_date has_timestamp
returns-clause-outcome g c =
    let F = g.F.Files in
    ok_by (contents_at (F.file_map c.args.files.now) (components c.args.path.now)) _ _
    (λ contents taken.
    let follows = subst (λ finder. Follows finder contents) (sym c.in-Ok.ensures.finder)
    (holds_of_contents _ (λ watched. Follows watched.finder) (λ before piece after step. step.1) _ _ contents taken [] c.new-watched.ensures.finder) in
    record {
      text = c.in-Ok.ensures.text contents (holds_of_contents _ (λ watched. g.H.HashState.holds watched.digest) (λ before piece after step. step.0) _ _ contents taken [] c.new-watched.ensures.digest);
      time = same_test c.found_time.result (has_time contents) (Has contents time_macro) (c.found_time.ensures contents follows) (has_iff contents time_macro);
      date = same_test c.found_date.result (has_date contents) (Has contents date_macro) (c.found_date.ensures contents follows) (has_iff contents date_macro);
      timestamp = same_test c.found_timestamp.result (has_timestamp contents) (Has contents timestamp_macro) (c.found_timestamp.ensures contents follows) (has_iff contents timestamp_macro);
    })
    c.in_ok-feed_file_of_size.ensures.outcome
