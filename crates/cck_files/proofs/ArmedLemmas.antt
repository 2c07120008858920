-- which of the calls fail, of which some are armed
use Rattle.std.proofs.Common.{◌≡◌, ◌≢◌, ◌↔◌, ◌⊎◌, inl, inr, ℕ, zero, suc, ◌-◌, ◌≤◌, ◌==◌, ◌||◌, true, refl, subst, arith}
use Rattle.std.specs.Prelude.{if◌then◌else◌}
use Rattle.std.proofs.Math.Bool.{or-true}
use Rattle.std.proofs.lemmas.Bool.{eqb-true, ne_eqb}
use Rattle.std.proofs.lemmas.Bool.Decides.{eqb_tells}
use Rattle.cck_files.specs.ArmedCalls.{FailsAsArmed, after_call, after_calls}

-- what is armed for the call after the next k ones
abbrev Comes : ℕ → ℕ → ℕ → Type 0
Comes k one onward = (one ≡ suc k) ⊎ ((onward ≢ 0) × (onward ≤ suc k))

first : (one onward : ℕ) → ((one == 1 || onward == 1) ≡ true) ↔ Comes 0 one onward
first one onward = (there, back onward) where
  there : (one == 1 || onward == 1) ≡ true → Comes 0 one onward
  there h =
      elim (eqb_tells one 1) [
        | inl same ↦ inl same.1
        | inr other ↦
            let is : onward ≡ 1 = eqb-true onward 1 (subst (λ b. (b || onward == 1) ≡ true) other.0 h) in
            inr (λ e. absurd (omega (arith, e, is)), omega (arith, is))
      ]

  back : (m : ℕ) → Comes 0 one m → (one == 1 || m == 1) ≡ true
  back m (inl e) = rw e refl
  back zero (inr (some, low)) = absurd (some refl)
  back (suc m) (inr (some, low)) = let is : m ≡ 0 = omega (arith, low) in rw is (or-true (one == 1))

-- `left` is what `onward` is after one call
later : (k one onward left : ℕ) → (onward ≡ 1 → left ≡ 1) → (onward ≢ 1 → left ≡ onward - 1) → Comes k (one - 1) left ↔ Comes (suc k) one onward
later k one onward left all before = (there, back) where
  there : Comes k (one - 1) left → Comes (suc k) one onward
  there (inl e) = inl (omega (arith, e))
  there (inr (some, low)) =
      elim (eqb_tells onward 1) [
        | inl same ↦ let is : onward ≡ 1 = same.1 in inr (λ e. absurd (omega (arith, e, is)), omega (arith, is))
        | inr other ↦ let is : left ≡ onward - 1 = before other.1 in inr (λ e. some (omega (arith, e, is)), omega (arith, low, is))
      ]

  back : Comes (suc k) one onward → Comes k (one - 1) left
  back (inl e) = inl (omega (arith, e))
  back (inr (some, low)) =
      elim (eqb_tells onward 1) [
        | inl same ↦ let is : left ≡ 1 = all same.1 in inr (λ e. absurd (omega (arith, e, is)), omega (arith, is))
        | inr other ↦ let is : left ≡ onward - 1 = before other.1 in inr (λ e. absurd (omega (arith, e, is, some, other.1)), omega (arith, low, is))
      ]

pub armed_fail : FailsAsArmed
unfolding after_calls
armed_fail zero a = first a.one a.onward
armed_fail (suc k) a =
    let rest = armed_fail k (after_call a) in
    let step = later k a.one a.onward (if a.onward == 1 then 1 else a.onward - 1) (λ e. rw e refl) (λ n. rw (ne_eqb a.onward 1 n) refl) in
    (λ h. step.0 (rest.0 h), λ h. rest.1 (step.1 h))
