-- a store that keeps nothing: its state is its count of store failures
use Rattle.std.specs.Prelude.{◌≡◌, ℕ, None, Ok, Err}
use Rattle.cck_path.specs.Bytes.{Bytes}
use Rattle.cck_util.specs.Store.{Returned, Store, Stored, counted, more}
use Rattle.cck_util.specs.declared.store.StoreError.TheVariants as store

-- a get finds nothing, and a put fails, which is a store failure
abbrev pub FindsNothing : ℕ → Bytes → Returned → ℕ → Type 0
FindsNothing s key returned t = (returned ≡ Ok None) × (t ≡ s)

abbrev pub KeepsNothing : ℕ → Bytes → Bytes → Stored → ℕ → Type 0
KeepsNothing s key bytes stored t = (stored ≡ Err store.Fault) × (t ≡ more s)

abbrev pub empty_store : Store ℕ
empty_store = record { held = λ s key bytes. ⊥; failures = counted; got = FindsNothing; put = KeepsNothing }
