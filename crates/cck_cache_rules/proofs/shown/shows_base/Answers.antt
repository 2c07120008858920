use Rattle.std.proofs.Common.{rules, tests}
use Rattle.std.proofs.lemmas.Iterator.{YieldsList-from_slice, cases_from_any}
use Rattle.cck_digest.specs.TimeMacros.{Has}
use Rattle.cck_cache_rules.proofs.ListLemmas.{any_decided}
use Rattle.cck_cache_rules.proofs.shown.shows_base.Goals as goal

pub returns : goal.returns
returns c =
    any_decided (Has c.args.made.now) (λ b. b.items) c.args.bases.now c.any.result
    (cases_from_any _ _ c.any.result (λ b. Has c.args.made.now b.items) (λ b. ¬ (Has c.args.made.now b.items)) c.any.ensures.ran (YieldsList-from_slice c.args.bases.now cc) (λ x q k. search (rules, tests)) (λ x q k. search (rules, tests)))
