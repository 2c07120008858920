use Rattle.std.proofs.Common.{◌≡◌, ◌∷◌, ◌++◌, sym, ap, ◌∙◌, codes, length, append_assoc}
use Rattle.std.specs.Cow.{cow_slice_items}
use Rattle.cck_path.specs.Bytes.{lists_of}
use Rattle.cck_strip.specs.Argument.{stripped_argument}
use Rattle.cck_explain.specs.Key.{frame_parts, item_name, length_part}
use Rattle.cck_explain.proofs.ListingLemmas.{frames_more}
use Rattle.cck_explain.proofs.part.push_arguments.Goals as goal

pub loop-index-preserved : goal.loop-index-preserved
loop-index-preserved c =
    let i = c.loop-index.index in
    let strip = stripped_argument (lists_of c.args.basedirs.now) in
    let name : c.as_str.result.now ≡ item_name (codes "arguments") i = c.as_str.ensures.value ∙ c.in_ok-name.ensures in
    let bytes = c.in-Ok.ensures.value ∙ ap strip c.deref.ensures.value in
    let more = frames_more (λ a. a.items) strip (codes "arguments") c.args.arguments.now i c.index-arguments-index.result _ _ c.loop-index-test.true c.index-arguments-index.is name bytes in
    c.in_ok-push_frame.ensures
    ∙ ap (λ l. l ++ frame_parts c.as_str.result.now (cow_slice_items c.in-Ok.stripped)) c.loop-index.invariant
    ∙ append_assoc c.args.parts.now.items _ _
    ∙ ap (λ l. c.args.parts.now.items ++ length_part (codes "arguments") (length c.args.arguments.now) ∷ l) (sym more)
