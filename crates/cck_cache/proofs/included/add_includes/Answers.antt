use Rattle.std.proofs.Common.{◌∙◌, ◌++◌, ◌∷◌, [], refl}
use Rattle.cck_cache_files.proofs.SnapshotLemmas.{grows_not}
use Rattle.cck_entry.specs.Lent.{result_lent}
use Rattle.cck_include.specs.Include.{include_lent}
use Rattle.cck_cache.specs.Included.{IsIncludeOf}
use Rattle.cck_cache.proofs.IncludedLemmas.{among, grows_included}
use Rattle.cck_cache.proofs.included.add_includes.Goals as goal

pub loop-include-init : goal.loop-include-init
loop-include-init g c = record {
  can = tt;
  finite = tt;
  seen = ([], c.into_iter-include-iterator.ensures.into_iter_gives ∙ c.includes-include-items.ensures);
  grown = grows_not (IsIncludeOf (result_lent c.args.included.now).1) c.args.files.now;
}

pub loop-include-preserved : goal.loop-include-preserved
loop-include-preserved g c =
    let all = (result_lent c.args.included.now).1 in
    let n = include_lent c.in-Some.include in
    let done = c.loop-include.invariant.seen.0 in
    let at = among done c.loop-include.include-iterator c.next.new.self all n c.in-Some.ensures.steps c.loop-include.invariant.seen.1 in
    record {
      can = tt;
      finite = tt;
      seen = (done ++ n ∷ [], at.1);
      grown = grows_included (IsIncludeOf all) c.args.files.now c.loop-include.files c.add_included.new.files n c.args.known.now
          c.loop-include.invariant.grown (n, at.0, refl) c.in_ok-add_included.ensures.added c.add_included.ensures.kept c.add_included.ensures.calm;
    }
