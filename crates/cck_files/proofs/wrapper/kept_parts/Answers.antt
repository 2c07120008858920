use Rattle.std.proofs.Common.{rules, tests, nat_eq, not}
use Rattle.std.proofs.lemmas.Iterator.Consumers.{YieldsList-from_filter, YieldsList-at, map_from_collect}
use Rattle.std.proofs.lemmas.Iterator.Splits.{YieldsList-from_slice_split}
use Rattle.cck_files.specs.Wrapper.{kept_parts, has_wrapper_component}
use Rattle.cck_files.proofs.wrapper.kept_parts.Goals as goal

pub returns : goal.returns
unfolding kept_parts
returns c = map_from_collect c.collect.result c.collect.ensures.ran
    (YieldsList-from_filter _ (λ part. not (has_wrapper_component part))
    (YieldsList-at c.filter.ensures.source
    (YieldsList-from_slice_split _ (λ b. nat_eq b 58) c.args.path.now c.split.ensures.rest c.split.ensures.done c.split.ensures.closure
    (λ x b q k. search (rules, tests))))
    c.filter.ensures.closure
    (λ x b q k. search (rules, tests)))
