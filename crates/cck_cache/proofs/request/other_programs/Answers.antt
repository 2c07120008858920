use Rattle.std.proofs.Common.{◌∙◌, ◌∷◌, ◌++◌, [], Bor, List, ℕ, ap, lit<, map, sym}
use Rattle.std.specs.Prelude.{flat_map}
use Rattle.std.specs.Str.Iter.{split_has_more, split_pattern, split_text}
use Rattle.std.proofs.lemmas.Iterator.Consumers.{YieldsList-end}
use Rattle.std.proofs.lemmas.Iterator.Splits.{YieldsList-from_str_split}
use Rattle.std.proofs.lemmas.List.{append-nil, map-append}
use Rattle.std.proofs.lemmas.List.Concat.{flat_map-append}
use Rattle.cck_cache.specs.Request.{other_program}
use Rattle.cck_cache.proofs.request.other_programs.Goals as goal

pub loop-program-preserved : goal.loop-program-preserved
loop-program-preserved c =
    let so_far = c.loop-program.yielded in
    let program = c.in-Some.program in
    let others : List ℕ = flat_map other_program (map (λ (p : Bor (List ℕ)). p.now) so_far) in
    c.in_ok-push_other.ensures ∙ (ap (λ (text : List ℕ). text ++ other_program program.now) c.loop-program.invariant
    ∙ (ap (λ (text : List ℕ). others ++ text) (sym (append-nil (other_program program.now)))
    ∙ (sym (flat_map-append other_program (map (λ (p : Bor (List ℕ)). p.now) so_far) (program.now ∷ []))
    ∙ ap (flat_map other_program) (sym (map-append (λ (p : Bor (List ℕ)). p.now) so_far (program ∷ []))))))

pub returns : goal.returns
returns c =
    let same = c.into_iter-program-iterator.ensures.into_iter_gives in
    let split = c.split-program-items.ensures in
    c.loop-program.invariant
    ∙ ap (flat_map other_program) (YieldsList-end (YieldsList-from_str_split 58 c.args.programs.now (lit< tt) (ap split_text same ∙ split.text) (ap split_has_more same ∙ split.has_more) (ap split_pattern same ∙ split.pattern)) c.loop-program.yielded _ c.loop-program.yielded_by _ _ c.in-None.is c.next.ensures.steps).0
