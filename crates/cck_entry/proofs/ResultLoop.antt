-- Reading results one after the other, as a loop does.
use Rattle.std.proofs.Common.{◌≡◌, ℕ, suc, ◌-◌, ◌+◌, ◌≤◌, ◌<◌, true, false, List, [], ◌∷◌, ◌++◌, Some, None, refl, arith}
use Rattle.cck_digest.specs.declared.entry_error.Error.{Error}
use Rattle.cck_digest.specs.declared.entry_error.Error.TheVariants.{Io, Deserialization, UnknownFormat, Memory}
use Rattle.cck_entry.specs.Results.{KeyResult}
use Rattle.cck_entry.specs.Reading.{Fails, result_at, results_from, comes_after}

abbrev Results : Type 0
Results = List KeyResult

pub result_goes_on : (front : Results) (count i : ℕ) (bytes : List ℕ) (r : KeyResult) (after : List ℕ) → i < count → result_at bytes ≡ Some (r, after) → comes_after front r.0 ≡ true
    → results_from (front ++ r ∷ []) (count - (i + 1)) after ≡ results_from front (count - i) bytes
unfolding results_from
result_goes_on front count i bytes r after lt h below =
    let k : count - i ≡ suc (count - (i + 1)) = omega arith in
    rw (k, h, below) refl

pub result_stops : (front : Results) (count i : ℕ) (bytes : List ℕ) (r : KeyResult) (after : List ℕ) → i < count → result_at bytes ≡ Some (r, after) → comes_after front r.0 ≡ false
    → results_from front (count - i) bytes ≡ None
unfolding results_from
result_stops front count i bytes r after lt h below =
    let k : count - i ≡ suc (count - (i + 1)) = omega arith in
    rw (k, h, below) refl

pub result_fails : (e : Error) (front : Results) (count i : ℕ) (bytes : List ℕ) → i < count → Fails e (result_at bytes) → Fails e (results_from front (count - i) bytes)
unfolding results_from
result_fails Memory front count i bytes lt h = tt
result_fails Deserialization front count i bytes lt h =
    let k : count - i ≡ suc (count - (i + 1)) = omega arith in
    rw (k, h) refl
result_fails (Io e) front count i bytes lt h = h
result_fails (UnknownFormat b) front count i bytes lt h = h

pub results_done : (front : Results) (count i : ℕ) (bytes : List ℕ) → count ≤ i → results_from front (count - i) bytes ≡ Some (front, bytes)
unfolding results_from
results_done front count i bytes le =
    let k : count - i ≡ 0 = omega arith in
    rw k refl
