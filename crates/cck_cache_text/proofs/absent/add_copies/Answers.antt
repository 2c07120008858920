use Rattle.std.proofs.Common.{◌≡◌, ℕ, List, [], Contains, map, get_or, sym, ap, ◌∙◌, subst, arith}
use Rattle.std.proofs.lemmas.List.{get_or-map, get_or_default, length-map}
use Rattle.cck_cache_text.specs.Sets.{Adds}
use Rattle.cck_cache_text.proofs.SetLemmas.{Below, adds_as, adds_more, adds_none_below}
use Rattle.cck_cache_text.proofs.absent.add_copies.Goals as goal

pub loop-path-init : goal.loop-path-init
loop-path-init c = adds_none_below (λ k q. q ≡ get_or (map (λ path. path.items) c.args.all.now) k []) c.args.paths.now

pub loop-path-preserved : goal.loop-path-preserved
loop-path-preserved c =
    let all = map (λ path. path.items) c.args.all.now in
    let i = c.loop-path.path-index in
    let path = c.path-item.result in
    let same : c.in_ok-to_vec.field-0.items ≡ get_or all i [] =
    c.in_ok-to_vec.ensures.items_if_clones_equal (λ x y e. e) ∙ (c.deref.ensures.value ∙ (ap (λ v. v.items) c.path-item.is ∙ sym (get_or-map (λ path. path.items) c.args.all.now i path [] c.loop-path-test.true)))
    in
    adds_more (λ k q. q ≡ get_or all k []) i c.args.paths.now c.loop-path.paths c.add.new.paths c.loop-path.invariant
    (subst (λ (p : List ℕ). Adds (λ q. q ≡ p) c.loop-path.paths c.add.new.paths) same c.in_ok-add.ensures)

pub returns : goal.returns
returns c =
    let all = map (λ path. path.items) c.args.all.now in
    let size = length-map c.args.all.now (λ path. path.items) in
    adds_as (Below (λ k q. q ≡ get_or all k []) c.loop-path.path-index) (Contains all) c.args.paths.now c.loop-path.paths
    (λ q at. (at.0, omega (arith, size, at.1, c.loop-path.auto.path-index-end), get_or_default all at.0 q [] (omega (arith, size, at.1, c.loop-path.auto.path-index-end)) ∙ sym at.2))
    (λ q at. (at.0, omega (arith, size, at.1, c.loop-path-test.false), sym at.2 ∙ get_or_default all at.0 q [] at.1)) c.loop-path.invariant
