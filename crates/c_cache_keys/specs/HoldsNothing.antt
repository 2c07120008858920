-- stores that hold nothing
use Rattle.std.specs.Prelude.{Some, Ok}
use Rattle.std.proofs.Common.{inr, lit<, lit≤, le_refl}
use Rattle.cck_path.specs.Bytes.{Bytes}
use Rattle.cck_util.specs.Store.{Returned, Store, StoreFailure, StoreLaws, Stored}

-- a store that holds nothing, with these gets and puts: its count of store failures is always the greatest
abbrev pub holds_nothing : {S : Type 0} → (S → Bytes → Returned → S → Type 0) → (S → Bytes → Bytes → Stored → S → Type 0) → Store S
holds_nothing got put = record { held = λ s key bytes. ⊥; failures = λ s. 18446744073709551615; got = got; put = put }

module _ {S : Type 0} (got : S → Bytes → Returned → S → Type 0) (put : S → Bytes → Bytes → Stored → S → Type 0) where
  failed : (s t : S) → StoreFailure (holds_nothing got put) s t
  failed s t = inr (lit≤ tt)

  -- if no get returns bytes, the laws of a store hold
  pub holds_nothing_laws : ((s t : S) (key bytes : Bytes) → got s key (Ok (Some bytes)) t → ⊥) → StoreLaws (holds_nothing got put)
  holds_nothing_laws none = record {
    failures_fit = λ s. lit< tt;
    got_count = λ s t key from_store returned. le_refl _;
    got_old = λ s t key from_store returned k b held. held;
    got_some = none;
    got_calm = λ s t key from_store returned calm k b held. held;
    got_none = λ s t key returned calm b held. held;
    got_error = λ s t key e returned. failed s t;
    put_count = λ s t key bytes from_store stored. le_refl _;
    put_old = λ s t key bytes from_store stored k b held. absurd held;
    put_calm = λ s t key bytes from_store stored calm k b apart held. held;
    put_new = λ s t key bytes from_store stored calm. absurd (calm (failed s t));
    put_error = λ s t key bytes e stored. failed s t;
  }
