use Rattle.std.proofs.Common.{Some, None}
use Rattle.std.proofs.lemmas.Bool.Decides.{Decides-eqb}
use Rattle.std.proofs.lemmas.Slice.Eq.{strip_prefix_is}
use Rattle.cck_cache_text.proofs.IncludedLemmas.{after_front, after_none}
use Rattle.cck_cache_text.proofs.included.add_after.Goals as goal

pub returns-in_ok-add_closed : goal.returns-in_ok-add_closed
returns-in_ok-add_closed c =
    let begins = strip_prefix_is Decides-eqb c.args.line.now c.args.front.now (Some c.in-Some.rest) c.in-Some.ensures.cases in
    after_front c.args.front.now c.args.close.now c.args.line.now c.args.names.now c.add_closed.new.names c.in-Some.rest.now begins c.in_ok-add_closed.ensures

pub returns-in_default : goal.returns-in_default
returns-in_default c =
    let none = strip_prefix_is Decides-eqb c.args.line.now c.args.front.now None c.in_default.ensures.cases in
    after_none c.args.front.now c.args.close.now c.args.line.now c.args.names.now none
