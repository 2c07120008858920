use Rattle.std.proofs.Common.{◌≡◌, true, codes, rules, tests, sym, ◌∙◌}
use Rattle.std.proofs.lemmas.Iterator.Search.{any_from_yields_List}
use Rattle.std.proofs.lemmas.Iterator.Splits.{YieldsList-from_slice_split}
use Rattle.cck_digest.specs.TimeMacros.{has}
use Rattle.cck_cache_text.specs.DependencyPragma.{is_dependency_line}
use Rattle.cck_cache_text.proofs.dependency_pragma.has_dependency_pragma.Goals as goal

pub returns-then-has : goal.returns-then-has
returns-then-has c =
    let some : has c.args.text.now (codes "dependency") ≡ true = sym c.has.ensures ∙ c.if-has.true in
    rw some
    (any_from_yields_List is_dependency_line _ _ _ c.any.ensures.ran
    (YieldsList-from_slice_split _ _ c.args.text.now c.split.ensures.rest c.split.ensures.done c.split.ensures.closure (λ x r q k. search (rules, tests)))
    (λ x b q k. search (rules, tests)))
