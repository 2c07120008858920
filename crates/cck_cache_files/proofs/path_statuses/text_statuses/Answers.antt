use Rattle.cck_cache_rules.specs.PathStatus.{statuses_of}
use Rattle.cck_cache_files.proofs.StatusLemmas.{still_before}
use Rattle.cck_cache_files.proofs.path_statuses.text_statuses.Goals as goal

pub loop-path-preserved-then-is_file : goal.loop-path-preserved-then-is_file
loop-path-preserved-then-is_file g c =
    still_before c.args.since c.deref-in-Some-found_at.result.now (statuses_of c.loop-path.statuses.items) (statuses_of c.add_status.new.statuses.items)
    c.in_ok-add_status-in-Some-found_at.ensures c.loop-path.invariant
