use Rattle.std.proofs.Common.{◌<◌, List, arith, length, sym, subst}
use Rattle.std.specs.FinMap.{entries}
use Rattle.std.specs.List.{Contains}
use Rattle.cck_cache_files.proofs.SnapshotLemmas.{grows_among, grows_not}
use Rattle.cck_entry.specs.Lent.{result_lent}
use Rattle.cck_entry.specs.Results.{KeyResult}
use Rattle.cck_cache.specs.Included.{IsIncluded, IsIncludeOf}
use Rattle.cck_cache.proofs.IncludedLemmas.{grows_all}
use Rattle.cck_cache_files.proofs.SetLemmas.{contains_map}
use Rattle.cck_cache.proofs.included.add_entry_files.Goals as goal

pub loop-result-init : goal.loop-result-init
loop-result-init g c = grows_not (IsIncluded c.args.entry.now) c.args.files.now

pub loop-result-preserved : goal.loop-result-preserved
loop-result-preserved g c =
    let entry = c.args.entry.now in
    let results = c.results-result-items.result.now in
    let r = c.result-item.result in
    let within : c.loop-result.result-index < length results = omega arith in
    let at : Contains (entries entry) (result_lent r) = subst (λ (all : List KeyResult). Contains all (result_lent r)) (sym c.results-result-items.ensures.entries)
    (contains_map result_lent results r (c.loop-result.result-index, within, sym c.result-item.is)) in
    grows_all (IsIncluded entry) c.args.files.now c.loop-result.files c.add_includes.new.files c.loop-result.invariant
    (grows_among (IsIncludeOf (result_lent r).1) (IsIncluded entry) c.loop-result.files c.add_includes.new.files (λ path is. (result_lent r, at, is)) c.in_ok-add_includes.ensures)
