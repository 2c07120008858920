use Rattle.std.proofs.Common.{◌≡◌, ℕ, ◌+◌, ◌-◌, ◌≤◌, ◌∙◌, List, length, take, drop, subst, arith, nat_eq}
use Rattle.std.proofs.lemmas.List.{drop-drop, length-drop, take_rest}
use Rattle.std.specs.List.{common_prefix_len}
use Rattle.cck_path.proofs.CommonPrefixLemmas.{same_front}
use Rattle.cck_path.proofs.path.same_chunks_len.Goals as goal

abbrev SameChunk : ℕ → List ℕ → List ℕ → Type 0
SameChunk n a b = (n ≤ length a) × (n ≤ length b) × (take n a ≡ take n b)

rest_whole : (n i : ℕ) (a b : List ℕ) → SameChunk n (take (length a - i) (drop i a)) (take (length b - i) (drop i b)) → SameChunk n (drop i a) (drop i b)
rest_whole n i a b h = subst (λ x. SameChunk n x (drop i b)) (take_rest a i) (subst (SameChunk n (take (length a - i) (drop i a))) (take_rest b i) h)

pub loop-at-preserved : goal.loop-at-preserved
loop-at-preserved g c =
    let a = c.args.a.now in
    let b = c.args.b.now in
    let i = c.loop-at.at in
    let n = g.row.N in
    let (in_a, in_b, e) = rest_whole n i a b c.loop-at-test.ensures in
    let more = same_front n (drop i a) (drop i b) in_a in_b e in
    let on : common_prefix_len nat_eq (drop i a) (drop i b) ≡ n + common_prefix_len nat_eq (drop (i + n) a) (drop (i + n) b)
    = more ∙ (λ j. n + common_prefix_len nat_eq (drop-drop n i a j) (drop-drop n i b j)) in
    (omega (arith, in_a, length-drop i a), omega (arith, in_b, length-drop i b), omega (arith, c.loop-at.invariant.2, on))
