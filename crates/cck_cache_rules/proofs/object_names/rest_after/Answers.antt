use Rattle.std.proofs.Common.{◌∙◌, sym, None, Some, length}
use Rattle.std.proofs.lemmas.Bool.{eqb-false, eqb-true}
use Rattle.std.proofs.lemmas.Bool.Decides.{Decides-eqb}
use Rattle.std.proofs.lemmas.Slice.Eq.{strip_prefix_is}
use Rattle.cck_cache_rules.proofs.ObjectNameLemmas.{inside_at_end, inside_by_slash, outside_other, rest_of}
use Rattle.cck_cache_rules.proofs.object_names.rest_after.Goals as goal

pub returns-in_default : goal.returns-in_default
returns-in_default c =
    let path = c.args.path.now in
    let base = c.args.base.now in
    outside_other path base (strip_prefix_is Decides-eqb path base None c.in_default.ensures.cases)

pub returns-then-is_empty : goal.returns-then-is_empty
returns-then-is_empty c =
    let path = c.args.path.now in
    let base = c.args.base.now in
    let rest = c.in-Some.rest.now in
    let is = strip_prefix_is Decides-eqb path base (Some c.in-Some.rest) c.in-Some.ensures.cases in
    (inside_at_end path base rest is (eqb-true (length rest) 0 (sym c.is_empty.ensures ∙ c.if-is_empty.true)), rest_of path base rest is)

pub returns-then-starts_with : goal.returns-then-starts_with
returns-then-starts_with c =
    let path = c.args.path.now in
    let base = c.args.base.now in
    let rest = c.in-Some.rest.now in
    let is = strip_prefix_is Decides-eqb path base (Some c.in-Some.rest) c.in-Some.ensures.cases in
    let more = eqb-false (length rest) 0 (sym c.is_empty.ensures ∙ c.if-is_empty.false) in
    (inside_by_slash path base rest is c.starts_with.result more c.starts_with.ensures.value ∙ c.if-starts_with.true, rest_of path base rest is)

pub returns-else-starts_with : goal.returns-else-starts_with
returns-else-starts_with c =
    let path = c.args.path.now in
    let base = c.args.base.now in
    let rest = c.in-Some.rest.now in
    let is = strip_prefix_is Decides-eqb path base (Some c.in-Some.rest) c.in-Some.ensures.cases in
    let more = eqb-false (length rest) 0 (sym c.is_empty.ensures ∙ c.if-is_empty.false) in
    inside_by_slash path base rest is c.starts_with.result more c.starts_with.ensures.value ∙ c.if-starts_with.false
