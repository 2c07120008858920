-- calls of which some are armed to fail
use Rattle.std.specs.Prelude.{◌≡◌, ◌≢◌, ◌↔◌, ◌⊎◌, ◌≤◌, ◌==◌, ◌||◌, ℕ, zero, suc, ◌+◌, ◌-◌, ◌^◌, Bool, true, min, refl, if◌then◌else◌}
use Rattle.std.specs.Coded.{Coded, code_by, coded×, coded_ℕ}

-- which of the next calls is armed alone, and from which of them on all are; each is counted from 1, and 0 is none. Also the number of
-- calls so far
pub record Armed : Type 0 where
  pub one : ℕ
  pub onward : ℕ
  pub calls : ℕ

-- no call is armed, and there was none so far
abbrev pub new_armed : Armed
new_armed = record { one = 0; onward = 0; calls = 0 }

-- none of the next calls is armed
abbrev pub IsUnarmed : Armed → Type 0
IsUnarmed a = (a.one ≡ 0) × (a.onward ≡ 0)

-- the next call fails
abbrev pub fails : Armed → Bool
fails a = (a.one == 1) || (a.onward == 1)

-- After a call: an armed call that is still to come is nearer by one. If all calls from this one on are armed, all that follow still are.
-- The count has 64 bits, and stays at its greatest value.
abbrev pub after_call : Armed → Armed
after_call a = record {
  one = a.one - 1;
  onward = if a.onward == 1 then 1 else a.onward - 1;
  calls = min (a.calls + 1) (2 ^ 64 - 1);
}

abbrev pub coded_armed : Coded Armed
coded_armed = code_by (ℕ × (ℕ × ℕ)) (coded× coded_ℕ (coded× coded_ℕ coded_ℕ)) (λ a. (a.one, (a.onward, a.calls))) (λ p. record { one = p.0; onward = p.1.0; calls = p.1.1 }) (λ _. refl)

-- after k calls
unfoldable pub after_calls : ℕ → Armed → Armed
after_calls zero a = a
after_calls (suc k) a = after_calls k (after_call a)

-- after k calls the next one fails exactly if it is the one that was armed alone, or is not before the first of those that all were
abbrev pub FailsAsArmed : Type 0
FailsAsArmed = (k : ℕ) (a : Armed) → (fails (after_calls k a) ≡ true) ↔ ((a.one ≡ suc k) ⊎ ((a.onward ≢ 0) × (a.onward ≤ suc k)))
