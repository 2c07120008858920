use Rattle.std.proofs.Common.{◌≡◌, ◌∷◌, [], ◌++◌, sym, ap, ◌∙◌, codes}
use Rattle.cck_digest.proofs.FrameLemmas.{length_bytes_are_bytes}
use Rattle.cck_digest.specs.Frames.{length_bytes}
use Rattle.cck_explain.specs.Key.{part}
use Rattle.cck_explain.proofs.part.push_length.Goals as goal

pub returns : goal.returns
returns c =
    let bytes : c.in_ok-bytes.bytes.items ≡ length_bytes c.args.length =
    c.in_ok-bytes.ensures.items_if_clones_equal (λ x y e. e) ∙ c.to_le_bytes.ensures ∙ sym (length_bytes_are_bytes c.args.length c.ranges.length.fits) in
    c.in_ok-push_part.ensures
    ∙ ap (λ n. c.args.parts.now.items ++ part n c.in_ok-bytes.bytes.items ∷ []) c.in_ok-name.ensures.ok
    ∙ ap (λ b. c.args.parts.now.items ++ part (c.args.name.now ++ codes ".length") b ∷ []) bytes
