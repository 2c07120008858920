use Rattle.std.proofs.Common.{◌∙◌}
use Rattle.cck_path.specs.Bytes.{lists_of}
use Rattle.cck_explain.proofs.ListingLemmas.{one_argument}
use Rattle.cck_explain.proofs.key.push_arguments_cuts.Goals as goal

pub loop-index-preserved : goal.loop-index-preserved
loop-index-preserved c =
    one_argument (lists_of c.args.basedirs.now) c.args.arguments.now c.loop-index.index c.index-arguments-index.result c.loop-index.lines.items _ _
    c.as_str.result.now c.deref.result.now c.loop-index.invariant c.loop-index-test.true c.index-arguments-index.is
    (c.as_str.ensures.value ∙ c.in_ok-name.ensures) c.deref.ensures.value c.in_ok-push_argument_cuts.ensures
