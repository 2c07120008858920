use Rattle.std.proofs.Common.{◌≡◌, ◌∙◌, ℕ, ◌<◌, ◌%◌, ◌^◌, List, true, false, cond, eqb, length, get_or, map, replicate, sym, ap, arith, bit_and}
use Rattle.std.proofs.lemmas.Bool.Decides.{nat_tests}
use Rattle.std.proofs.lemmas.List.{get_or-map, length-map, length-replicate}
use Rattle.std.proofs.lemmas.Simd.{bit_mask_l, get_or-replicate, get_or-zip2, length-zip2, mask_l-mod}
use Rattle.std.specs.Int.{bit_at}
use Rattle.std.specs.Simd.Lanes.{mask_l, top, zip2}
use Rattle.cck_strip.proofs.lanes.both_equal.Goals as goal

-- all bits of a byte where the two are equal
abbrev equal : ℕ → ℕ → ℕ
equal a b = cond (eqb a b) 255 0

whole : (a b x : ℕ) → a ≡ x → b ≡ x → equal a b ≡ 255
whole a b x e f = let same : eqb a b ≡ true = grind (arith, nat_tests) in ap (λ t. cond {A = ℕ} t 255 0) same

-- the lanes that are equal to one byte
abbrev lanes : List ℕ → ℕ → List ℕ
lanes bytes byte = zip2 equal bytes (replicate 64 byte)

size : (bytes : List ℕ) (byte : ℕ) → length bytes ≡ 64 → length (lanes bytes byte) ≡ 64
size bytes byte e = length-zip2 equal bytes (replicate 64 byte) (e ∙ sym (length-replicate 64 byte)) ∙ e

lane : (bytes : List ℕ) (byte k : ℕ) → length bytes ≡ 64 → k < 64 → get_or bytes k 0 ≡ byte → get_or (lanes bytes byte) k 0 ≡ 255
lane bytes byte k e h is =
    get_or-zip2 equal bytes (replicate 64 byte) k 0 0 0 (omega arith) (omega (arith, length-replicate 64 byte))
    ∙ whole _ _ byte is (get_or-replicate 64 k byte 0 h)

both : (xs ys : List ℕ) (x y k : ℕ) → length xs ≡ 64 → length ys ≡ 64 → k < 64 → get_or xs k 0 ≡ x → get_or ys k 0 ≡ y
    → bit_at (mask_l (map (top 7) (zip2 bit_and (lanes xs x) (lanes ys y))) % 2 ^ 64) k ≡ 1
both xs ys x y k p q h e f =
    let pairs = zip2 bit_and (lanes xs x) (lanes ys y) in
    let first_size = size xs x p in
    let last_size = size ys y q in
    let all : length pairs ≡ 64 = length-zip2 bit_and (lanes xs x) (lanes ys y) (first_size ∙ sym last_size) ∙ first_size in
    let here : get_or pairs k 0 ≡ 255 =
    get_or-zip2 bit_and (lanes xs x) (lanes ys y) k 0 0 0 (omega arith) (omega arith)
    ∙ (ap (λ a. bit_and a (get_or (lanes ys y) k 0)) (lane xs x k p h e) ∙ ap (bit_and 255) (lane ys y k q h f)) in
    ap (λ m. bit_at m k) (mask_l-mod (map (top 7) pairs) 64 (omega (arith, length-map pairs (top 7))))
    ∙ (bit_mask_l (map (top 7) pairs) k
    ∙ ap (λ b. cond {A = ℕ} b 1 0) (get_or-map (top 7) pairs k 0 false (omega arith) ∙ ap (top 7) here))

pub returns : goal.returns
returns c k h e f = both c.args.firsts c.args.lasts c.args.first c.args.last k c.fits-firsts.0 c.fits-lasts.0 h e f
