use Rattle.std.proofs.Common.{◌∙◌, ap, map, below_more, string_bytes}
use Rattle.cck_c.proofs.StringLemmas.{copied_on, utf8_at}
use Rattle.cck_c.proofs.key.copy_strings.Goals as goal

pub loop-one-preserved : goal.loop-one-preserved
loop-one-preserved c = record {
  copied = ap (map string_bytes) c.in-Ok-push.ensures.items
      ∙ copied_on c.args.all.now c.loop-one.one-index _ c.loop-one.strings.items c.in-Ok-from_str.string c.loop-one-test.true c.loop-one.invariant.copied
      (c.in-Ok-from_str.ensures.ok ∙ c.in-Ok.ensures.cases.0);
  utf8 = below_more _ _ c.loop-one.invariant.utf8 (utf8_at c.args.all.now c.loop-one.one-index _ c.loop-one-test.true c.in-Ok.ensures.cases.1);
}
