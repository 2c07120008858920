-- the results of the look-up of a key in the store
use Rattle.std.specs.Prelude.{◌≡◌, ◌⊎◌, Bool, false, Option, Some, None, Result, Ok, Err, String, string_bytes}
use Rattle.std.specs.declared.alloc.Global.{Global}
use Rattle.cck_include.specs.Include.{Include}
use Rattle.cck_digest.specs.declared.key_error.KeyError.{KeyError}
use Rattle.cck_path.specs.Bytes.{Bytes}
use Rattle.cck_util.specs.Store.{Returned, Store}
use Rattle.cck_hasher.specs.Call.{Call, CallResult, Keyed, ReturnsError}
use Rattle.cck_hasher.specs.Keys.{preprocessor_key_of}
use Rattle.cck_hasher.specs.Seen.{why_of}
use Rattle.cck_hasher.specs.Step.{Gives, matching}
use Rattle.cck_hasher.specs.World.{World}
use Rattle.cck_hasher.specs.declared.call.CacheControl.{CacheControl}
use Rattle.cck_hasher.specs.declared.call.CacheControl.TheVariants.{Default, ForceRecache}

-- the result of asking the store, as that of the call, if it is determined
abbrev pub asked_of : Result (Option (String Global)) KeyError → Option CallResult
asked_of (Ok None) = None
asked_of (Ok (Some key)) = Some (Keyed (string_bytes key) false)
asked_of (Err e) = Some (ReturnsError (why_of e))

-- the store is asked once, under this key
pub record AsksBy {S : Type 0} (st : Store S) (test : Include → Bool) (F : Type 0) (k : Bytes) (s : S) (o : Option CallResult) (t : S) : Type 0 where
  pub from_store : Returned
  pub got : st.got s k from_store t
  pub gives : Gives test F from_store o

-- The store is asked under this key; or it isn't, where there is no key or no stored key may be returned.
abbrev pub IsFoundBy : {S : Type 0} → Store S → Option Bytes → CacheControl → (Include → Bool) → Type 0 → S → Option CallResult → S → Type 0
IsFoundBy st key control test HasFault s o t =
    (((key ≡ None) ⊎ (control ≡ ForceRecache)) × (o ≡ None) × (t ≡ s))
    ⊎ ((k : Bytes) × (key ≡ Some k) × (control ≡ Default) × AsksBy st test HasFault k s o t)

-- the same under a call's key
abbrev pub IsFound : {V S : Type 0} → World V → Store S → Call V → Type 0 → S → Option CallResult → S → Type 0
IsFound w st c = IsFoundBy st (preprocessor_key_of w c) c.control (matching w c)
