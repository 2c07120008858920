-- Times before others.
use Rattle.std.proofs.Common.{◌≡◌, ◌↔◌, ◌⊎◌, ◌<◌, ℕ, ℤ, ◌<ℤ◌, Bool, IsTrue, refl, Ordering, Less, Equal, Greater, nat_cmp, int_cmp, sym, subst, inl, inr, ⊎_elim, arith}
use mathlib.Core.Bool.{false≢true}
use Rattle.std.specs.Cmp.{int_chain, int_ranks, ranks}
use Rattle.std.specs.Int.Signed.{<ℤ_irrefl}
use Rattle.std.specs.Ordering.{MatchOrdering, is_lt, ordering_then}
use Rattle.cck_path.specs.Timestamp.{Moment}
use Rattle.cck_cache_files.specs.Times.{IsEarlier}

less_by_nanoseconds : (s t : ℤ) (m n : ℕ) → s ≡ t → (o : Ordering) → MatchOrdering o (m < n) (m ≡ n) (n < m) → IsTrue (is_lt o) ↔ ((s <ℤ t) ⊎ ((s ≡ t) × (m < n)))
less_by_nanoseconds s t m n e Less h = (λ _. inr (e, h), λ _. refl)
less_by_nanoseconds s t m n e Equal h = (λ f. absurd (false≢true f), λ x. ⊎_elim (λ l. absurd (<ℤ_irrefl (subst (λ (u : ℤ). s <ℤ u) (sym e) l))) (λ p. let less : m < n = p.1 in absurd (omega arith)) x)
less_by_nanoseconds s t m n e Greater h = (λ f. absurd (false≢true f), λ x. ⊎_elim (λ l. absurd (<ℤ_irrefl (subst (λ (u : ℤ). s <ℤ u) (sym e) l))) (λ p. let less : m < n = p.1 in absurd (omega arith)) x)

less_by_seconds : (s t : ℤ) (m n : ℕ) → (o : Ordering) → MatchOrdering o (s <ℤ t) (s ≡ t) (t <ℤ s)
    → IsTrue (is_lt (ordering_then o (nat_cmp m n))) ↔ ((s <ℤ t) ⊎ ((s ≡ t) × (m < n)))
less_by_seconds s t m n Less h = (λ _. inl h, λ _. refl)
less_by_seconds s t m n Equal h = less_by_nanoseconds s t m n h (nat_cmp m n) (ranks m n)
less_by_seconds s t m n Greater h = (λ f. absurd (false≢true f), λ x. ⊎_elim (λ l. absurd (<ℤ_irrefl (int_chain s t s l h))) (λ p. absurd (<ℤ_irrefl (subst (λ (u : ℤ). t <ℤ u) p.0 h))) x)

-- the order of times, by their parts
pub before_by_parts : (a b : Moment) (r : Bool) → r ≡ is_lt (ordering_then (int_cmp a.seconds b.seconds) (nat_cmp a.nanoseconds b.nanoseconds))
    → IsTrue r ↔ ((a.seconds <ℤ b.seconds) ⊎ ((a.seconds ≡ b.seconds) × (a.nanoseconds < b.nanoseconds)))
before_by_parts a b r e =
    let P : Bool → Type 0 = λ t. IsTrue t ↔ ((a.seconds <ℤ b.seconds) ⊎ ((a.seconds ≡ b.seconds) × (a.nanoseconds < b.nanoseconds))) in
    subst P (sym e) (less_by_seconds a.seconds b.seconds a.nanoseconds b.nanoseconds (int_cmp a.seconds b.seconds) (int_ranks a.seconds b.seconds))

-- the same where the earlier one has nanoseconds
pub earlier_by_parts : (a b : Moment) (r : Bool) → 0 < a.nanoseconds → r ≡ is_lt (ordering_then (int_cmp a.seconds b.seconds) (nat_cmp a.nanoseconds b.nanoseconds)) → IsTrue r ↔ IsEarlier a b
earlier_by_parts a b r some e =
    let both = before_by_parts a b r e in (
      λ is. ⊎_elim (λ l. inl l) (λ p. inr (p.0, some, p.1)) (both.0 is),
      λ is. both.1 (⊎_elim (λ l. inl l) (λ p. inr (p.0, p.2)) is),
    )

-- and where it has none
pub earlier_by_seconds : (a b : Moment) (r : Bool) → a.nanoseconds ≡ 0 → IsTrue r ↔ (a.seconds <ℤ b.seconds) → IsTrue r ↔ IsEarlier a b
earlier_by_seconds a b r none is = (
  λ less. inl (is.0 less),
  λ earlier. ⊎_elim (λ l. is.1 l) (λ p. absurd (omega (arith, none, p.1))) earlier,
)
