-- Calls are made in order.
use Rattle.std.proofs.Common.{◌≡◌, ℕ, zero, suc, ◌<◌, ◌≤◌, List, [], ◌∷◌, ◌++◌, length, map, take, drop, get_or, Result, refl, ap, subst, arith}
use Rattle.std.proofs.Math.ListN.{set}
use Rattle.std.proofs.lemmas.List.{take_all}
use Rattle.std.specs.List.{AllZip}
use Rattle.cck_files.specs.Calls.{Keeps}
use Rattle.cck_files.specs.FileMap.{FileMap}
use Rattle.cck_files.proofs.CallsLemmas.{keeps_itself}
use Rattle.cck_digest.specs.declared.key_error.KeyError.{KeyError}
use Rattle.cck_util.specs.Store.{Store}
use Rattle.c_cache_keys.specs.Calls.{AreReturned, IsAfter, IsReturned, done_all}
use Rattle.cck_hasher.specs.Seen.{result_of}
use Rattle.cck_hasher.specs.Step.{Run}
use Rattle.cck_hasher.specs.World.{World}
use Rattle.cck_hasher.specs.declared.call.HashResult.{HashResult}
use Rattle.c_cache_keys.specs.declared.calls.Call.{Call}

module _ {I F V : Type 0} (value : I → V) (file_map : F → FileMap) (faults : F → ℕ) where
  module _ {S : Type 0} (w : World V) (st : Store S) where
    -- one more call was made
    pub returned_more : (i : ℕ) (olds news : List (Call I F)) (rs : List (Result HashResult KeyError)) (v : Call I F) (f : F) (r : Result HashResult KeyError) (s mid t : S)
        → i < length olds → drop i news ≡ drop i olds → AreReturned value file_map faults w st s (take i olds) (take i news) rs mid
        → IsReturned value file_map faults w st mid (get_or news i v) (record (get_or news i v) { files = f }) r t
        → AreReturned value file_map faults w st s (take (suc i) olds) (take (suc i) (set news i (record (get_or news i v) { files = f }))) (rs ++ r ∷ []) t
    returned_more zero [] news rs v f r s mid t l same made next = absurd (omega (l, arith))
    returned_more zero (o ∷ olds) [] rs v f r s mid t l same made next =
        let none : 0 ≡ suc (length olds) = ap length same in
        absurd (omega (none, arith))
    returned_more zero (o ∷ olds) (n ∷ news) (x ∷ rs) v f r s mid t l same made next = absurd made
    returned_more zero (o ∷ olds) (n ∷ news) [] v f r s mid t l same made next =
        let first : n ≡ o = ap (λ xs. get_or xs 0 n) same in
        (t, subst (λ b. IsReturned value file_map faults w st s b (record n { files = f }) r t) first (subst (λ m. IsReturned value file_map faults w st m n (record n { files = f }) r t) made next), refl)
    returned_more (suc i) [] news rs v f r s mid t l same made next = absurd (omega (l, arith))
    returned_more (suc i) (o ∷ olds) [] rs v f r s mid t l same made next = absurd made
    returned_more (suc i) (o ∷ olds) (n ∷ news) [] v f r s mid t l same made next = absurd made
    returned_more (suc i) (o ∷ olds) (n ∷ news) (x ∷ rs) v f r s mid t l same (m, first, rest) next =
        (m, first, returned_more i olds news rs v f r m mid t (omega (l, arith)) same rest next)

    -- calls that were made are a run
    pub run_returned : (olds news : List (Call I F)) (rs : List (Result HashResult KeyError)) (s t : S)
        → AreReturned value file_map faults w st s olds news rs t → Run w st s (done_all value file_map faults olds news) (map result_of rs) t
    run_returned [] [] [] s t made = made
    run_returned [] [] (r ∷ rs) s t made = absurd made
    run_returned [] (n ∷ news) rs s t made = absurd made
    run_returned (o ∷ olds) [] rs s t made = absurd made
    run_returned (o ∷ olds) (n ∷ news) [] s t made = absurd made
    run_returned (o ∷ olds) (n ∷ news) (r ∷ rs) s t (mid, first, rest) = (mid, first.step, run_returned olds news rs mid t rest)

    -- and so they are at the end of the loop
    pub all_returned : (i : ℕ) (olds news : List (Call I F)) (rs : List (Result HashResult KeyError)) (s t : S) → length olds ≤ i → length news ≡ length olds
        → AreReturned value file_map faults w st s (take i olds) (take i news) rs t → AreReturned value file_map faults w st s olds news rs t
    all_returned i olds news rs s t past long made =
        let all = take_all i olds past in
        let now = take_all i news (omega (arith, long, past)) in
        rw (all, now) at made

    pub all_run : (i : ℕ) (olds news : List (Call I F)) (rs : List (Result HashResult KeyError)) (s t : S) → length olds ≤ i → length news ≡ length olds
        → AreReturned value file_map faults w st s (take i olds) (take i news) rs t → Run w st s (done_all value file_map faults olds news) (map result_of rs) t
    all_run i olds news rs s t past long made = run_returned olds news rs s t (all_returned i olds news rs s t past long made)

-- the calls that are left are unchanged
pub rest_more : {A : Type 0} (i : ℕ) (olds news : List A) (v : A) → length news ≡ length olds → drop i news ≡ drop i olds → drop (suc i) (set news i v) ≡ drop (suc i) olds
rest_more i [] [] v long same = refl
rest_more i [] (n ∷ news) v long same = absurd (omega (long, arith))
rest_more i (o ∷ olds) [] v long same = absurd (omega (long, arith))
rest_more zero (o ∷ olds) (n ∷ news) v long same = ap (drop 1) same
rest_more (suc i) (o ∷ olds) (n ∷ news) v long same = rest_more i olds news v (omega (long, arith)) same

module _ {I F : Type 0} (file_map : F → FileMap) (faults : F → ℕ) (is_quiet : F → Type 0) where
  -- calls that weren't made are unchanged
  pub untouched : (cs : List (Call I F)) → AllZip (IsAfter file_map faults is_quiet) cs cs
  untouched [] = tt
  untouched (c ∷ cs) = (record { same = refl; keeps = keeps_itself c.files }, untouched cs)

  -- one more call changed its files
  pub after_more : (i : ℕ) (olds news : List (Call I F)) (r : Call I F) (f : F) → i < length olds → drop i news ≡ drop i olds → Keeps file_map faults is_quiet (get_or news i r).files f
      → AllZip (IsAfter file_map faults is_quiet) olds news → AllZip (IsAfter file_map faults is_quiet) olds (set news i (record (get_or news i r) { files = f }))
  after_more i [] [] r f l same keeps all = absurd (omega (l, arith))
  after_more i [] (n ∷ news) r f l same keeps all = absurd all
  after_more i (o ∷ olds) [] r f l same keeps all = absurd all
  after_more zero (o ∷ olds) (n ∷ news) r f l same keeps all =
      let first : n ≡ o = ap (λ xs. get_or xs 0 n) same in
      (record { same = ap (λ (c : Call I F). record c { files = f }) first; keeps = subst (λ (c : Call I F). Keeps file_map faults is_quiet c.files f) first keeps }, all.1)
  after_more (suc i) (o ∷ olds) (n ∷ news) r f l same keeps all = (all.0, after_more i olds news r f (omega (l, arith)) same keeps all.1)
