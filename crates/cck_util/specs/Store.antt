-- stores, by what they hold and what their calls do
use Rattle.std.specs.Prelude.{◌≡◌, ◌⊎◌, ℕ, ◌+◌, ◌-◌, ◌^◌, ◌<◌, ◌≤◌, min, nat_lt, if◌then◌else◌, Option, Some, None, Result, Ok, Err}
use Rattle.std.specs.Global.{Vec}
use Rattle.cck_path.specs.Bytes.{Bytes}
use Rattle.cck_files.specs.Calls.{Rose}
use Rattle.cck_util.specs.declared.store.StoreError.{StoreError}

-- the result of a get, and that of a put
abbrev pub Returned : Type 0
Returned = Result (Option Bytes) StoreError

abbrev pub Stored : Type 0
Stored = Result (Unit {0}) StoreError

abbrev pub returned_by : Result (Option (Vec ℕ)) StoreError → Returned
returned_by (Err e) = Err e
returned_by (Ok None) = Ok None
returned_by (Ok (Some bytes)) = Ok (Some bytes.items)

-- which bytes are held under a key, the number of store failures, and what a get and a put do, with their results
pub record Store (S : Type 0) : Type 1 where
  pub held : S → Bytes → Bytes → Type 0
  pub failures : S → ℕ
  pub got : S → Bytes → Returned → S → Type 0
  pub put : S → Bytes → Bytes → Stored → S → Type 0

-- one more, up to the greatest number of 64 bits
unfoldable pub more : ℕ → ℕ
more n = if nat_lt n 18446744073709551615 then n + 1 else n

-- the counted number: a count has 64 bits, and stays at its greatest value
abbrev pub counted : ℕ → ℕ
counted n = min n (2 ^ 64 - 1)

-- there was a store failure between two states
abbrev pub StoreFailure : {S : Type 0} → Store S → S → S → Type 0
StoreFailure st s t = Rose (st.failures s) (st.failures t)

-- these bytes are held under the key, and no others
abbrev pub HoldsOnly : {S : Type 0} → Store S → S → Bytes → Bytes → Type 0
HoldsOnly st s key bytes = st.held s key bytes × ((others : Bytes) → st.held s key others → others ≡ bytes)

-- The laws of a store: it never returns what wasn't put under the key. It may lose entries, fail and run out of memory. Each of these is a
-- store failure, and their count has 64 bits. Without a store failure a get changes nothing and finds what is held, and a put changes only
-- what its own key holds.
pub record StoreLaws {S : Type 0} (st : Store S) : Type 0 where
  pub failures_fit : (s : S) → st.failures s < 2 ^ 64
  pub got_count : (s t : S) (key : Bytes) (returned : Returned) → st.got s key returned t → st.failures s ≤ st.failures t
  pub got_old : (s t : S) (key : Bytes) (returned : Returned) → st.got s key returned t → (k b : Bytes) → st.held t k b → st.held s k b
  pub got_some : (s t : S) (key bytes : Bytes) → st.got s key (Ok (Some bytes)) t → st.held s key bytes
  pub got_calm : (s t : S) (key : Bytes) (returned : Returned) → st.got s key returned t → (StoreFailure st s t → ⊥) → (k b : Bytes) → st.held s k b → st.held t k b
  pub got_none : (s t : S) (key : Bytes) → st.got s key (Ok None) t → (StoreFailure st s t → ⊥) → (b : Bytes) → st.held s key b → ⊥
  pub got_error : (s t : S) (key : Bytes) (e : StoreError) → st.got s key (Err e) t → StoreFailure st s t
  pub put_count : (s t : S) (key bytes : Bytes) (returned : Stored) → st.put s key bytes returned t → st.failures s ≤ st.failures t
  pub put_old : (s t : S) (key bytes : Bytes) (returned : Stored) → st.put s key bytes returned t → (k b : Bytes) → st.held t k b → st.held s k b ⊎ ((k ≡ key) × (b ≡ bytes))
  pub put_calm : (s t : S) (key bytes : Bytes) (returned : Stored) → st.put s key bytes returned t → (StoreFailure st s t → ⊥) → (k b : Bytes) → (k ≡ key → ⊥) → st.held s k b → st.held t k b
  pub put_new : (s t : S) (key bytes : Bytes) (returned : Stored) → st.put s key bytes returned t → (StoreFailure st s t → ⊥) → HoldsOnly st t key bytes
  pub put_error : (s t : S) (key bytes : Bytes) (e : StoreError) → st.put s key bytes (Err e) t → StoreFailure st s t
