use Rattle.std.proofs.Common.{ap, sym, ◌∙◌}
use Rattle.std.proofs.lemmas.Bool.{false≢true}
use Rattle.cck_cache_options.specs.Call.{call_of, outcome_of}
use Rattle.cck_cache.proofs.judge.judge.Goals as goal

pub returns-then-ask_for_file : goal.returns-then-ask_for_file
returns-then-ask_for_file c = (call_of c.in-Asks.asked, sym c.in_ok-asked.ensures ∙ ap outcome_of c.in-Asks.is, c.ask_for_file.ensures.0 c.if-ask_for_file.true)

pub returns-then-name_arguments : goal.returns-then-name_arguments
returns-then-name_arguments c =
    (call_of c.in-Asks.asked, sym c.in_ok-asked.ensures ∙ ap outcome_of c.in-Asks.is, λ asks. false≢true (sym c.if-ask_for_file.false ∙ c.ask_for_file.ensures.1 asks), c.name_arguments.ensures.0 c.if-name_arguments.true)
