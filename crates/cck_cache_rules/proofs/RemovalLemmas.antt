-- Which of the first sizes go.
use Rattle.std.proofs.Common.{◌≡◌, ◌∷◌, [], ℕ, zero, suc, ◌+◌, ◌-◌, ◌<◌, ◌≤◌, List, length, drop, get_or, arith, ap, ◌∙◌}
use Rattle.std.proofs.lemmas.List.Sums.{sum_by-drop_more, sum_by-take-drop}
use Rattle.std.specs.Prelude.{sum}
use Rattle.cck_cache_rules.specs.Removal.{IsRemovedCount}

-- the sum of a list's end is no more than that of the list
end_sum : (n : ℕ) (sizes : List ℕ) → sum (drop n sizes) ≤ sum sizes
end_sum n sizes = omega (arith, sum_by-take-drop (λ size. size) sizes n)

-- a later end has a sum that is no more
later_sum : (i j : ℕ) (sizes : List ℕ) → i ≤ j → sum (drop j sizes) ≤ sum (drop i sizes)
later_sum zero j sizes h = end_sum j sizes
later_sum (suc i) zero sizes h = absurd (omega arith)
later_sum (suc i) (suc j) [] h = omega arith
later_sum (suc i) (suc j) (size ∷ sizes) h = later_sum i j sizes (omega arith)

-- the sum from an index on
sum_from : (sizes : List ℕ) (i j : ℕ) → i + 1 ≡ j → j ≤ length sizes → sum (drop i sizes) ≡ get_or sizes i 0 + sum (drop j sizes)
sum_from sizes i j e h = sum_by-drop_more (λ size. size) sizes i 0 (omega arith) ∙ ap (λ k. get_or sizes i 0 + sum (drop k sizes)) e

-- where one size more is too much, no fewer would do
pub none_fewer : (sizes : List ℕ) (most count left : ℕ) → count ≤ length sizes → 0 < count → left ≡ sum (drop count sizes) → left ≤ most
    → ((left + get_or sizes (count - 1) 0 ≤ most) → ⊥) → IsRemovedCount sizes most count
none_fewer sizes most count left within some is fits more = record {
  within = within;
  fits = omega arith;
  fewest = λ fewer below. omega (arith, more, later_sum fewer (count - 1) sizes (omega arith), sum_from sizes (count - 1) count (omega arith) within);
}
