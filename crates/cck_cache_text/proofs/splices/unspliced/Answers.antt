use Rattle.std.proofs.Common.{◌≡◌, ◌+◌, ◌<◌, ℕ, Bor, List, [], ◌∷◌, ◌++◌, get_or, length, map, take, sym, ap, ◌∙◌, arith}
use Rattle.std.specs.List.{flat_map}
use Rattle.std.proofs.lemmas.Grind.{flat_map-append}
use Rattle.std.proofs.lemmas.List.{append-nil, get_or-map, length-map, take_more}
use Rattle.cck_cache_text.specs.Splices.{unspliced_line}
use Rattle.cck_cache_text.proofs.splices.unspliced.Goals as goal

-- one more line
next_line : (lines : List (List ℕ)) (i : ℕ) → i < length lines → flat_map unspliced_line (take (i + 1) lines) ≡ flat_map unspliced_line (take i lines) ++ unspliced_line (get_or lines i [])
next_line lines i lt =
    ap (flat_map unspliced_line) (take_more lines i [] lt)
    ∙ (flat_map-append unspliced_line (take i lines) (get_or lines i [] ∷ []) ∙ ap (λ end. flat_map unspliced_line (take i lines) ++ end) (append-nil (unspliced_line (get_or lines i []))))

pub loop-line-preserved : goal.loop-line-preserved
loop-line-preserved c =
    let items = c.in-Some.front.now in
    let lines = map (λ (line : Bor (List ℕ)). line.now) items in
    let i = c.loop-line.line-index in
    let at : get_or lines i [] ≡ (get_or items i _).now = get_or-map (λ (line : Bor (List ℕ)). line.now) items i _ [] c.loop-line-test.true in
    c.in_ok-push_line.ensures
    ∙ (ap (λ text. text ++ unspliced_line (get_or items i _).now) c.loop-line.invariant
    ∙ (ap (λ line. flat_map unspliced_line (take i lines) ++ unspliced_line line) (sym at) ∙ sym (next_line lines i (omega (arith, length-map items (λ (line : Bor (List ℕ)). line.now), c.loop-line-test.true)))))
