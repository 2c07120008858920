use Rattle.std.proofs.Common.{sym, ◌∙◌}
use Rattle.cck_cache_text.proofs.IncludedLemmas.{after_words, no_words}
use Rattle.cck_cache_text.proofs.included.add_quoted.Goals as goal

pub returns : goal.returns
returns c =
    after_words 34 34 c.args.line.now c.args.names.now c.add_after.new.names c.add_after-2.new.names c.add_after-3.new.names c.in_ok-add_after.ensures c.in_ok-add_after-2.ensures c.in_ok-add_after-3.ensures

pub returns-then-not-may_include : goal.returns-then-not-may_include
returns-then-not-may_include c = no_words 34 34 c.args.line.now c.args.names.now (sym c.may_include.ensures ∙ c.if-not-may_include.true)
