use Rattle.std.proofs.Common.{[], ◌∷◌, ◌++◌, None, Some, ap, ◌∙◌}
use Rattle.std.proofs.lemmas.Bool.{false≢true}
use Rattle.std.proofs.lemmas.Bool.Decides.{Decides-eqb}
use Rattle.std.proofs.lemmas.Slice.Eq.{strip_prefix_is}
use Rattle.cck_cache_rules.proofs.ArgumentLemmas.{mapped_decided, mapped_is, unmapped}
use Rattle.cck_cache_rules.proofs.argument.maps_base.Goals as goal

pub returns-in_default : goal.returns-in_default
returns-in_default c =
    let other = strip_prefix_is Decides-eqb c.args.argument.now c.args.option.now None c.in_default.ensures.cases in
    (λ q. absurd (false≢true q), λ m. absurd (other (c.args.base.now ++ 61 ∷ m.name) m.is))

pub returns-in_default-strip_prefix : goal.returns-in_default-strip_prefix
returns-in_default-strip_prefix c =
    let first = strip_prefix_is Decides-eqb c.args.argument.now c.args.option.now (Some c.in-Some.map) c.in-Some.ensures.cases in
    let other = strip_prefix_is Decides-eqb c.in-Some.map.now c.args.base.now None c.in_default-strip_prefix.ensures.cases in
    (λ q. absurd (false≢true q), λ m. absurd (other (61 ∷ m.name) (mapped_is _ _ _ _ [] first m)))

pub returns-then-not-contains : goal.returns-then-not-contains
returns-then-not-contains c =
    let first = strip_prefix_is Decides-eqb c.args.argument.now c.args.option.now (Some c.in-Some.map) c.in-Some.ensures.cases in
    let second = strip_prefix_is Decides-eqb c.in-Some.map.now c.args.base.now (Some c.in-Some-strip_prefix.name) c.in-Some-strip_prefix.ensures.cases in
    let third = strip_prefix_is Decides-eqb c.in-Some-strip_prefix.name.now c.as_slice.result.now (Some c.in-Some-strip_prefix-2.name) c.in-Some-strip_prefix-2.ensures.cases in
    mapped_decided _ _ _ _ _ first second _ (third ∙ ap (λ x. x ++ c.in-Some-strip_prefix-2.name.now) c.as_slice.ensures) _ _ c.contains.ensures.cases c.if-not-contains.true c.contains-then-not-contains.ensures

pub returns-else-not-contains : goal.returns-else-not-contains
returns-else-not-contains c =
    let first = strip_prefix_is Decides-eqb c.args.argument.now c.args.option.now (Some c.in-Some.map) c.in-Some.ensures.cases in
    let second = strip_prefix_is Decides-eqb c.in-Some.map.now c.args.base.now (Some c.in-Some-strip_prefix.name) c.in-Some-strip_prefix.ensures.cases in
    let third = strip_prefix_is Decides-eqb c.in-Some-strip_prefix.name.now c.as_slice.result.now (Some c.in-Some-strip_prefix-2.name) c.in-Some-strip_prefix-2.ensures.cases in
    let none = unmapped _ _ _ _ _ first second _ (third ∙ ap (λ x. x ++ c.in-Some-strip_prefix-2.name.now) c.as_slice.ensures) _ c.contains.ensures.cases c.if-not-contains.false in
    rw c.if-not-contains.false (λ q. absurd (false≢true q), λ m. absurd (none m))
