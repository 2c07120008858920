use Rattle.std.proofs.Common.{◌∙◌, ap, codes, map, refl}
use Rattle.cck_path.specs.Bytes.{lists_of}
use Rattle.cck_strip.specs.Argument.{stripped_argument}
use Rattle.cck_strip.specs.Text.{stripped_text}
use Rattle.cck_explain.specs.Key.{frame_parts, list_parts}
use Rattle.cck_explain.proofs.PartsLemmas.{then, then_four}
use Rattle.cck_explain.proofs.part.material_parts.Goals as goal

pub returns : goal.returns
returns c =
    let first = then_four _ _ _ _ _ _ _ _ c.in_ok-push_first_parts.ensures c.new-parts.ensures.items refl in
    let arguments = then _ _ _ _ _ c.in_ok-push_arguments.ensures first
    (ap (λ a. list_parts (codes "arguments") (map (stripped_argument (lists_of c.deref-2.result.now)) (lists_of a))) c.deref.ensures.value
    ∙ ap (λ d. list_parts (codes "arguments") (map (stripped_argument (lists_of d)) (lists_of c.args.request.now.arguments.items))) c.deref-2.ensures.value) in
    then_four _ _ _ _ _ _ _ _ c.in_ok-push_last_parts.ensures arguments
    (ap (λ d. frame_parts (codes "preprocessor_output") (stripped_text (lists_of d) c.args.text.now)) c.deref-3.ensures.value)
