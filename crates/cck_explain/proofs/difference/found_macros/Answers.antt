use Rattle.std.proofs.Common.{[]}
use Rattle.cck_digest.specs.TimeMacros.{Has, date_macro, timestamp_macro}
use Rattle.cck_include.specs.Recorded.{has_date, has_timestamp}
use Rattle.cck_include.proofs.RecordedLemmas.{same_test}
use Rattle.cck_digest.proofs.HasLemmas.{has_iff}
use Rattle.cck_explain.proofs.difference.found_macros.Goals as goal

pub returns-clause-date : goal.returns-clause-date
unfolding has_date
returns-clause-date c =
    let contents = c.args.contents.now in
    same_test c.found_date.result (has_date contents) (Has contents date_macro) (c.found_date.ensures contents (c.find_time_macros.ensures.follows [] c.new-finder.ensures)) (has_iff contents date_macro)

pub returns-clause-timestamp : goal.returns-clause-timestamp
unfolding has_timestamp
returns-clause-timestamp c =
    let contents = c.args.contents.now in
    same_test c.found_timestamp.result (has_timestamp contents) (Has contents timestamp_macro) (c.found_timestamp.ensures contents (c.find_time_macros.ensures.follows [] c.new-finder.ensures)) (has_iff contents timestamp_macro)
