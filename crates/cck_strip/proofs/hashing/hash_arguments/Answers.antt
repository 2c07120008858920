use Rattle.std.proofs.Common.{◌≡◌, ◌∙◌, ◌∷◌, [], ◌++◌, ◌+◌, List, ℕ, append_assoc, map, take, sym, ap, subst}
use Rattle.std.specs.List.{flat_map}
use Rattle.std.proofs.lemmas.List.{flat_map_more, map-append, map_more}
use Rattle.cck_strip.specs.Argument.{argument_bytes, stripped_argument}
use Rattle.cck_strip.proofs.hashing.hash_arguments.Goals as goal

-- what is fed after one more argument
one_more : (strip : List ℕ → List ℕ) (fed : List ℕ) (arguments : List (List ℕ)) (argument stripped : List ℕ) → stripped ≡ strip argument
    → ((fed ++ flat_map argument_bytes (map strip arguments)) ++ stripped) ++ 255 ∷ [] ≡ fed ++ flat_map argument_bytes (map strip (arguments ++ argument ∷ []))
one_more strip fed arguments argument stripped e =
    append_assoc (fed ++ flat_map argument_bytes (map strip arguments)) stripped (255 ∷ [])
    ∙ (flat_map_more argument_bytes fed (map strip arguments) stripped
    ∙ ap (λ l. fed ++ flat_map argument_bytes l) (ap (λ s. map strip arguments ++ s ∷ []) e ∙ sym (map-append strip arguments (argument ∷ []))))

pub loop-argument-preserved : goal.loop-argument-preserved
loop-argument-preserved g c fed h =
    let argument = c.argument-item.result in
    let basedirs = map (λ b. b.items) c.args.basedirs.now in
    let before = map (λ a. a.items) (take c.loop-argument.argument-index c.args.arguments.now) in
    let more : map (λ a. a.items) (take (c.loop-argument.argument-index + 1) c.args.arguments.now) ≡ before ++ argument.items ∷ [] =
    map_more (λ a. a.items) _ _ argument c.loop-argument-test.true ∙ ap (λ v. before ++ v.items ∷ []) (sym c.argument-item.is) in
    let stripped : c.as_slice.result.now ≡ stripped_argument basedirs argument.items =
    c.as_slice.ensures.value ∙ (c.in_ok-stripped.ensures.value ∙ ap (stripped_argument basedirs) c.deref.ensures.value) in
    rw more
    (subst (g.H.HashState.holds c.update-in-loop-argument.new.self) (one_more (stripped_argument basedirs) fed before argument.items c.as_slice.result.now stripped)
    (c.update-in-loop-argument.ensures _ (c.update.ensures _ (c.loop-argument.invariant fed h))))
