use Rattle.std.proofs.Common.{◌∷◌, [], ap, codes, refl}
use Rattle.cck_explain.specs.Key.{frame_parts, part}
use Rattle.cck_explain.proofs.PartsLemmas.{then}
use Rattle.cck_explain.proofs.part.push_last_parts.Goals as goal

pub returns : goal.returns
returns c =
    let assembler = then _ _ _ _ _ c.in_ok-push_part.ensures c.in_ok-push_length.ensures (ap (λ n. part n (0 ∷ []) ∷ []) c.in_ok-assembler.ensures.ok) in
    let variables = then _ _ _ _ _ c.in_ok-push_length-2.ensures assembler refl in
    then _ _ _ _ _ c.in_ok-push_frame.ensures variables (ap (frame_parts (codes "preprocessor_output")) c.in-Ok.ensures.value)
