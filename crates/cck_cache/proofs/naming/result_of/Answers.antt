use Rattle.std.proofs.Common.{rules, ◌≡◌, ◌<◌, List, arith, length, map, take, sym, subst}
use Rattle.std.proofs.lemmas.List.{take_all}
use Rattle.std.specs.FinMap.{entries}
use Rattle.std.specs.List.{Contains}
use Rattle.cck_entry.specs.Lent.{result_lent}
use Rattle.cck_entry.specs.Results.{KeyResult}
use Rattle.cck_entry.specs.declared.result_ref.ResultRef.{ResultRef}
use Rattle.cck_path.specs.Bytes.{Bytes}
use Rattle.cck_cache_files.proofs.SetLemmas.{contains_map}
use Rattle.cck_cache.proofs.NamingLemmas.{none_more}
use Rattle.cck_cache.proofs.naming.result_of.Goals as goal

pub returns-then-eq : goal.returns-then-eq
returns-then-eq c =
    let entry = c.args.entry.now in
    let results = c.results-result-items.result.now in
    let r = c.result-item.result in
    let within : c.loop-result.result-index < length results = omega arith in
    let same : r.key.now ≡ c.args.key.now = search rules in
    subst (λ (k : Bytes). Contains (entries entry) (k, (result_lent r).1)) same
    (subst (λ (all : List KeyResult). Contains all (result_lent r)) (sym c.results-result-items.ensures.entries)
    (contains_map result_lent results r (c.loop-result.result-index, within, sym c.result-item.is)))

pub loop-result-preserved : goal.loop-result-preserved
loop-result-preserved c =
    let results = c.results-result-items.result.now in
    let within : c.loop-result.result-index < length results = omega arith in
    let other : c.result-item.result.key.now ≡ c.args.key.now → ⊥ = search rules in
    none_more results c.loop-result.result-index c.result-item.result c.args.key.now within c.result-item.is other c.loop-result.invariant

pub returns : goal.returns
returns c includes at =
    let results = c.results-result-items.result.now in
    let all : take c.loop-result.result-index results ≡ results = take_all c.loop-result.result-index results (omega (arith, c.loop-result-test.false)) in
    c.loop-result.invariant includes
    (subst (λ (rs : List ResultRef). Contains (map result_lent rs) (c.args.key.now, includes)) (sym all)
    (subst (λ (rs : List KeyResult). Contains rs (c.args.key.now, includes)) c.results-result-items.ensures.entries at))
