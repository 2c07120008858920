use Rattle.std.proofs.Common.{◌+◌, ◌∙◌, ap, drop, arith}
use Rattle.std.proofs.lemmas.Bool.{false_from_ne_true}
use Rattle.std.proofs.lemmas.List.{length-take-le, take_rest}
use Rattle.cck_path.specs.Path.{path_cmp, inner_components}
use Rattle.cck_path.specs.Components.{components_left}
use Rattle.cck_path.proofs.CommonPrefixLemmas.{order_after}
use Rattle.cck_path.proofs.NameOrderLemmas.{order_at}
use Rattle.cck_path.proofs.path.compare_paths.Goals as goal

pub returns-else-is_in_name : goal.returns-else-is_in_name
returns-else-is_in_name c =
    let a = c.args.a.now in
    let b = c.args.b.now in
    let n = c.in-Some.slash in
    let k = c.common_prefix_len-same.result in
    c.compare_components.ensures
    ∙ ap (λ p. path_cmp p (components_left c.after-in-Some.result)) (c.after.ensures ∙ ap inner_components (take_rest a (n + 1)))
    ∙ ap (λ p. path_cmp (inner_components (drop (n + 1) a)) p) (c.after-in-Some.ensures ∙ ap inner_components (take_rest b (n + 1)))
    ∙ order_after a b n k c.common_prefix_len-same.ensures.count (omega (arith, c.in-Some.ensures.0.high, length-take-le k a c.common_prefix_len-same.ensures.in_first)) c.in-Some.ensures.1

pub returns-then-is_in_name-2 : goal.returns-then-is_in_name-2
returns-then-is_in_name-2 c =
    let a = c.args.a.now in
    let b = c.args.b.now in
    let n = c.in-Some.slash in
    let k = c.common_prefix_len-same.result in
    let of_a = c.if-is_in_name.ensures in
    let of_b = c.if-is_in_name-2.ensures in
    c.cmp.ensures
    ∙ order_at a b n k c.common_prefix_len-same.ensures.count (omega (arith, c.in-Some.ensures.0.high, length-take-le k a c.common_prefix_len-same.ensures.in_first)) c.in-Some.ensures.1
    (λ i low high. false_from_ne_true _ (c.in-Some.ensures.0.after i low (omega (arith, high, length-take-le k a c.common_prefix_len-same.ensures.in_first))))
    of_a.0 of_b.0 of_a.2 of_b.2 of_a.1 of_b.1
