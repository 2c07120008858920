use Rattle.std.proofs.Common.{rules, ◌≡◌, Some, codes}
use Rattle.clap.specs.Matches.{first_value, found_of}
use Rattle.cck_cache_options.proofs.TaskLemmas.{since_by}
use Rattle.cck_cache_options.proofs.task.since_of.Goals as goal

pub returns : goal.returns
returns c =
    let given : first_value (found_of c.args.matches.now) (codes "since") ≡ Some c.in_ok-text.text.now = search rules in
    since_by (found_of c.args.matches.now) c.in_ok-text.text.now (λ t. t.seconds) (λ t. t.nanoseconds) c.stamp_of.result given c.stamp_of.ensures
