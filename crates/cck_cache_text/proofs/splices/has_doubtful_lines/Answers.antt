use Rattle.std.proofs.Common.{◌≡◌, true, rules, tests, sym, ◌∙◌}
use Rattle.std.proofs.lemmas.Iterator.Search.{any_from_yields_List}
use Rattle.std.proofs.lemmas.Iterator.Splits.{YieldsList-from_slice_split}
use Rattle.cck_cache_text.specs.Splices.{is_doubtful_line, may_be_doubtful}
use Rattle.cck_cache_text.proofs.splices.has_doubtful_lines.Goals as goal

pub returns-then-may_be_doubtful : goal.returns-then-may_be_doubtful
returns-then-may_be_doubtful c =
    let some : may_be_doubtful c.args.contents.now ≡ true = sym c.may_be_doubtful.ensures ∙ c.if-may_be_doubtful.true in
    rw some
    (any_from_yields_List is_doubtful_line _ _ _ c.any.ensures.ran
    (YieldsList-from_slice_split _ _ c.args.contents.now c.split.ensures.rest c.split.ensures.done c.split.ensures.closure (λ x r q k. search (rules, tests)))
    (λ x b q k. search (rules, tests)))
