use Rattle.cck_cache_rules.specs.PathStatus.{statuses_of}
use Rattle.cck_cache_files.proofs.StatusLemmas.{still_before}
use Rattle.cck_cache_files.proofs.path_statuses.add_directory_statuses.Goals.{in-Some-found_at+in_ok-add_status-in-Some-found_at, in-Some-found_at+else-is_timed, in-None-1}
use Rattle.cck_cache_files.proofs.path_statuses.add_directory_statuses.Goals as goal

pub loop-test-preserved : goal.loop-test-preserved
loop-test-preserved g c = λ at_first.
    let before = c.loop-test.invariant at_first in
    elim c.match-found_at.branch [
      | in-Some-found_at+in_ok-add_status-in-Some-found_at w ↦
          rw w.statuses-is (still_before c.args.since c.as_bytes-directory.result.now (statuses_of c.loop-test.statuses.items) (statuses_of w.add_status.new.statuses.items)
          w.in_ok-add_status-in-Some-found_at.ensures before)
      | in-Some-found_at+else-is_timed w ↦ rw w.statuses-is before
      | in-None-1 w ↦ rw w.statuses-is before
    ]
