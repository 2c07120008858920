-- A count that is raised rises.
use Rattle.std.proofs.Common.{◌≡◌, inl, inr, ℕ, ◌+◌, ◌^◌, ◌<◌, ◌≤◌, nat_lt, Bool, true, false, cond, refl, arith}
use Rattle.std.proofs.lemmas.Bool.Decides.{nat_tests}
use Rattle.cck_files.specs.Calls.{Rose}
use Rattle.cck_util.specs.Store.{counted, more}

pub more_rises : (n : ℕ) → Rose (counted n) (counted (more n))
unfolding more
more_rises n = by (nat_lt n 18446744073709551615) refl
  where
    by : (b : Bool) → nat_lt n 18446744073709551615 ≡ b → Rose (counted n) (counted (cond b (n + 1) n))
    by true is = let below : n < 18446744073709551615 = grind (arith, nat_tests) in inl (omega arith)
    by false is = let top : 18446744073709551615 ≤ n = grind (arith, nat_tests) in inr (omega arith)

pub more_higher : (n : ℕ) → n ≤ more n
unfolding more
more_higher n = by (nat_lt n 18446744073709551615)
  where
    by : (b : Bool) → n ≤ cond b (n + 1) n
    by true = omega arith
    by false = omega arith

pub counted_higher : (m n : ℕ) → m ≤ n → counted m ≤ counted n
counted_higher m n up = omega arith

pub counted_fits : (n : ℕ) → counted n < 2 ^ 64
counted_fits n = omega arith
