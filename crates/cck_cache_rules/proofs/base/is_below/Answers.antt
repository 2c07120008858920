use Rattle.std.proofs.Common.{None, Some, length, ap, sym, ◌∙◌, codes}
use Rattle.std.proofs.lemmas.Bool.{eqb-true, eq-eqb, false≢true}
use Rattle.std.proofs.lemmas.Bool.Decides.{Decides-eqb}
use Rattle.std.proofs.lemmas.List.{nil_from_length}
use Rattle.std.proofs.lemmas.Slice.Eq.{strip_prefix_is}
use Rattle.cck_cache_rules.proofs.BaseLemmas.{below_decided, not_below, nothing_after}
use Rattle.cck_cache_rules.proofs.ListLemmas.{starts_decided}
use Rattle.cck_cache_rules.proofs.base.is_below.Goals as goal

pub returns-then-is_empty : goal.returns-then-is_empty
returns-then-is_empty c =
    let begins = strip_prefix_is Decides-eqb c.args.path.now c.args.base.now (Some c.in-Some.rest) c.in-Some.ensures.cases in
    let none = nil_from_length c.in-Some.rest.now (eqb-true _ 0 (sym c.is_empty.ensures ∙ c.if-is_empty.true)) in
    (λ q. nothing_after _ _ _ begins none, λ below. c.if-is_empty.true)

pub returns-else-is_empty : goal.returns-else-is_empty
returns-else-is_empty c =
    let begins = strip_prefix_is Decides-eqb c.args.path.now c.args.base.now (Some c.in-Some.rest) c.in-Some.ensures.cases in
    below_decided _ _ _ begins _
    (λ none. false≢true (sym c.if-is_empty.false ∙ (c.is_empty.ensures ∙ eq-eqb _ 0 (ap length none))))
    (starts_decided c.in-Some.rest.now (codes "/") _ c.starts_with.ensures.value)

pub returns-in-None : goal.returns-in-None
returns-in-None c =
    let other = strip_prefix_is Decides-eqb c.args.path.now c.args.base.now None c.in-None.ensures.cases in
    (λ q. absurd (false≢true q), λ below. absurd (not_below _ _ other below))
