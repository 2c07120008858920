use Rattle.std.proofs.Common.{◌∙◌, ℕ, List, ap, arith, length, subst, sym}
use Rattle.std.specs.FinMap.{insert}
use Rattle.cck_cache_rules.specs.PathStatus.{statuses_of}
use Rattle.cck_cache_rules.specs.declared.path_status.PathStatus.{PathStatus}
use Rattle.cck_entry.specs.Statuses.{Statuses}
use Rattle.cck_path.specs.Path.{components}
use Rattle.cck_cache_files.specs.PathStatuses.{AreAsRecorded, AreDirectoriesAsRecorded}
use Rattle.cck_cache_files.proofs.StatusLemmas.{Directories, no_directories, nothing_known, one_more_directory, one_more_known}
use Rattle.cck_cache_files.proofs.path_statuses.unchanged_statuses.Goals.{else-eq+in_ok-insert-2, then-eq+in_ok-to_vec+in_ok-insert}
use Rattle.cck_cache_files.proofs.path_statuses.unchanged_statuses.Goals as goal

pub loop-status-init : goal.loop-status-init
loop-status-init g c = record {
  recorded = subst (λ (known : Statuses). AreAsRecorded (statuses_of c.args.statuses.now) known) (sym c.new-files.ensures) (nothing_known (statuses_of c.args.statuses.now));
  directories = no_directories (statuses_of c.args.statuses.now) c.new-directories.result c.new-directories.ensures.empty;
  none = λ nothing. c.new-files.ensures;
}

pub loop-status-preserved-in_default : goal.loop-status-preserved-in_default
loop-status-preserved-in_default g c = c.loop-status.invariant

pub loop-status-preserved : goal.loop-status-preserved
loop-status-preserved g c =
    let statuses = c.args.statuses.now in
    let status = c.status-item.result in
    let there-is = rw c.in-Some.is at c.in_ok-found.ensures in
    let known = λ (k : Statuses). AreAsRecorded (statuses_of statuses) k in
    let listed = λ (d : Directories). AreDirectoriesAsRecorded (statuses_of statuses) d in
    record {
      recorded = elim c.if-eq.branch [
        | then-eq+in_ok-to_vec+in_ok-insert w ↦ subst known (sym w.files-is) c.loop-status.invariant.recorded
        | else-eq+in_ok-insert-2 w ↦
            let more = one_more_known statuses c.loop-status.status-index status c.loop-status.files c.in-Some.metadata c.loop-status-test.true c.status-item.is there-is.0 there-is.1 c.loop-status.invariant.recorded in
            let there = w.files-is ∙ (w.in_ok-insert-2.ensures.set ∙ ap (λ (path : List ℕ). insert c.loop-status.files (components path) c.in-Some.metadata) w.deref-else-eq.ensures.value) in
            subst known (sym there) more
      ];
      directories = elim c.if-eq.branch [
        | then-eq+in_ok-to_vec+in_ok-insert w ↦
            let same = w.in_ok-to_vec.ensures.items_if_clones_equal (λ x y e. e) ∙ w.deref.ensures.value in
            subst listed (sym w.directories-is)
            (one_more_directory statuses c.loop-status.status-index status c.loop-status.directories w.insert.new.self w.in_ok-to_vec.field-0 c.in-Some.metadata c.loop-status-test.true c.status-item.is same there-is.0 there-is.1 w.in_ok-insert.ensures.updates c.loop-status.invariant.directories)
        | else-eq+in_ok-insert-2 w ↦ subst listed (sym w.directories-is) c.loop-status.invariant.directories
      ];
      none = λ nothing. let low = c.loop-status-test.true in absurd (omega (arith, ap (λ (l : List PathStatus). length l) nothing));
    }

pub returns-clause-recorded : goal.returns-clause-recorded
returns-clause-recorded g c = c.loop-status.invariant.recorded

pub returns-clause-directories : goal.returns-clause-directories
returns-clause-directories g c = c.loop-status.invariant.directories

pub returns-clause-none : goal.returns-clause-none
returns-clause-none g c = c.loop-status.invariant.none
