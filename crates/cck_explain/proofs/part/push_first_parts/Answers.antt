use Rattle.std.proofs.Common.{◌∙◌, ◌∷◌, [], ap, codes}
use Rattle.cck_explain.specs.Key.{frame_parts, part}
use Rattle.cck_explain.proofs.PartsLemmas.{then}
use Rattle.cck_explain.proofs.part.push_first_parts.Goals as goal

pub returns : goal.returns
returns c =
    let digest = then _ _ _ _ _ c.in_ok-push_frame-2.ensures c.in_ok-push_frame.ensures (ap (frame_parts (codes "compiler_digest")) c.as_bytes.ensures.value) in
    let plusplus = then _ _ _ _ _ c.in_ok-push_part.ensures digest (ap (λ n. part n (0 ∷ []) ∷ []) c.in_ok-plusplus.ensures.ok) in
    then _ _ _ _ _ c.in_ok-push_frame-3.ensures plusplus (ap (frame_parts (codes "language")) (c.as_bytes-2.ensures.value ∙ c.as_str-language.ensures))
