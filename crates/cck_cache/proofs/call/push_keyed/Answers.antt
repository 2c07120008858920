use Rattle.std.proofs.Common.{◌++◌, ap, ◌∙◌}
use Rattle.std.specs.Prelude.{flat_map}
use Rattle.std.proofs.lemmas.List.{take_all}
use Rattle.cck_cache_options.proofs.StepLemmas.{bytes_more}
use Rattle.cck_cache.specs.Call.{one_among}
use Rattle.cck_path.specs.Bytes.{lists_of}
use Rattle.cck_cache.proofs.call.push_keyed.Goals as goal

pub loop-one-preserved : goal.loop-one-preserved
loop-one-preserved c =
    bytes_more (one_among c.args.defines) c.args.keyed.now c.loop-one.one-index _ (lists_of c.args.all.now.items) _ _ c.loop-one-test.true c.loop-one.invariant c.in_ok-push_one.ensures

pub returns : goal.returns
returns c =
    c.loop-one.invariant ∙ ap (λ keyed. lists_of c.args.all.now.items ++ flat_map (one_among c.args.defines) keyed) (take_all c.loop-one.one-index c.args.keyed.now c.loop-one-test.false)
