use Rattle.std.proofs.Common.{◌++◌, map, ap, ◌∙◌}
use Rattle.std.proofs.lemmas.List.{take_all}
use Rattle.cck_cache_options.specs.Call.{keyed_argument}
use Rattle.cck_cache_options.specs.Quote.{preprocessor_argument, preprocessor_command}
use Rattle.cck_cache_options.proofs.StepLemmas.{appended_more}
use Rattle.cck_cache_options.proofs.quote.push_preprocessor_arguments.Goals as goal

pub loop-argument-preserved : goal.loop-argument-preserved
loop-argument-preserved c =
    appended_more preprocessor_argument keyed_argument c.args.arguments.now c.loop-argument.argument-index _ _ _ _ c.loop-argument-test.true c.loop-argument.invariant
    c.in_ok-push_preprocessor_argument.ensures

pub returns : goal.returns
returns c =
    c.loop-argument.invariant
    ∙ ap (λ arguments. c.args.out.now.items ++ preprocessor_command (map keyed_argument arguments)) (take_all c.loop-argument.argument-index c.args.arguments.now c.loop-argument-test.false)
