use Rattle.std.proofs.Common.{rules, tests}
use Rattle.std.proofs.lemmas.Iterator.{YieldsList-from_slice, cases_from_any}
use Rattle.cck_cache_rules.proofs.ListLemmas.{any_decided}
use Rattle.cck_cache.specs.Response.{MayNameArguments}
use Rattle.cck_cache.proofs.judge.name_arguments.Goals as goal

pub returns : goal.returns
returns c =
    any_decided MayNameArguments (λ a. a.items) c.args.arguments.now c.any.result
    (cases_from_any _ _ c.any.result (λ a. MayNameArguments a.items) (λ a. ¬ (MayNameArguments a.items)) c.any.ensures.ran (YieldsList-from_slice c.args.arguments.now cc) (λ x q k. search (rules, tests)) (λ x q k. search (rules, tests)))
