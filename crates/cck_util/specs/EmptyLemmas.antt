-- A store that keeps nothing meets the laws of stores.
use Rattle.std.proofs.Common.{◌≡◌, ℕ, Some, None, Ok, Err, sym, subst, le_refl}
use Rattle.cck_path.specs.Bytes.{Bytes}
use Rattle.cck_files.specs.Calls.{Rose}
use Rattle.cck_util.specs.Counts.{counted_fits, counted_higher, more_higher, more_rises}
use Rattle.cck_util.specs.EmptyStore.{empty_store}
use Rattle.cck_util.specs.Store.{Returned, StoreLaws, counted, more}
use Rattle.cck_util.specs.declared.store.StoreError.{StoreError}

something : {bytes : Bytes} → ◌≡◌ {A = Returned} (Ok (Some bytes)) (Ok None) → ⊥
something e = cc

refused : {e : StoreError} → ◌≡◌ {A = Returned} (Err e) (Ok None) → ⊥
refused e = cc

raised : (s t : ℕ) → t ≡ more s → Rose (counted s) (counted t)
raised s t e = subst (λ n. Rose (counted s) (counted n)) (sym e) (more_rises s)

pub empty_store_laws : StoreLaws empty_store
empty_store_laws = record {
  failures_fit = counted_fits;
  got_count = λ s t key returned got. rw (got.1) (le_refl _);
  got_old = λ s t key returned got k b held. held;
  got_some = λ s t key bytes got. something got.0;
  got_calm = λ s t key returned got calm k b held. held;
  got_none = λ s t key got calm b held. held;
  got_error = λ s t key e got. absurd (refused got.0);
  put_count = λ s t key bytes returned put. rw (put.1) (counted_higher s (more s) (more_higher s));
  put_old = λ s t key bytes returned put k b held. absurd held;
  put_calm = λ s t key bytes returned put calm k b apart held. held;
  put_new = λ s t key bytes returned put calm. absurd (calm (raised s t put.1));
  put_error = λ s t key bytes e put. raised s t put.1;
}
