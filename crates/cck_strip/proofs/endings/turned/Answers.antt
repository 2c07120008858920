use Rattle.std.proofs.Common.{◌≡◌, ◌∙◌, ◌∷◌, [], ◌++◌, ◌+◌, map, take, reverse, sym, ap}
use Rattle.std.proofs.lemmas.List.{map-append, map_more}
use Rattle.cck_strip.specs.Endings.{turned}
use Rattle.cck_strip.proofs.endings.turned.Goals as goal

pub loop-word-preserved : goal.loop-word-preserved
loop-word-preserved c =
    let word = c.word-item.result in
    let before = map (λ b. b.items) (take c.loop-word.word-index c.args.words.now) in
    let more : map (λ b. b.items) (take (c.loop-word.word-index + 1) c.args.words.now) ≡ before ++ word.items ∷ [] =
    map_more (λ b. b.items) _ _ word c.loop-word-test.true ∙ ap (λ v. before ++ v.items ∷ []) (sym c.word-item.is) in
    let last : c.reverse.new.self.items ≡ reverse word.items =
    c.reverse.ensures.items ∙ ap reverse (c.in_ok-turned.ensures.items_if_clones_equal (λ x y e. e) ∙ c.as_slice.ensures.value) in
    rw more
    (ap (map (λ b. b.items)) c.in_ok-push.ensures.items
    ∙ (map-append (λ b. b.items) c.loop-word.all.items (c.reverse.new.self ∷ [])
    ∙ (ap (λ l. l ++ c.reverse.new.self.items ∷ []) c.loop-word.invariant
    ∙ (ap (λ w. turned before ++ w ∷ []) last ∙ sym (map-append (λ w. reverse w) before (word.items ∷ []))))))
