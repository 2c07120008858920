-- Lists of calls before and after they are made, and results as values of the definitions.
use Rattle.std.proofs.Common.{◌≡◌, ℕ, List, [], ◌∷◌, ◌++◌, Err, Result, codes, refl, ap}
use Rattle.std.specs.Global.{Vec}
use Rattle.cck_digest.specs.declared.error.FileError.TheVariants as file
use Rattle.cck_digest.specs.declared.error.UtilError.TheVariants as util
use Rattle.cck_files.specs.FolderText.{lossy}
use Rattle.cck_files.proofs.CallsLemmas.{keeps_itself}
use Rattle.cck_files.specs.FileMap.{FileMap}
use Rattle.cck_digest.specs.declared.key_error.KeyError.{KeyError}
use Rattle.cck_digest.specs.declared.key_error.KeyError.TheVariants as error
use Rattle.cck_path.specs.Bytes.{lists_of}
use Rattle.cck_util.specs.Store.{Store}
use Rattle.cck_hasher.specs.Call.{Extra, ExtraFault, Input, ReturnsError, calls_of}
use Rattle.c_cache_keys.specs.Calls.{AreReturned, IsAfter, call_in, done_all, done_in}
use Rattle.cck_hasher.specs.Hasher.{toolchain_key}
use Rattle.cck_hasher.specs.Seen.{result_of}
use Rattle.cck_hasher.specs.World.{World}
use Rattle.cck_hasher.specs.declared.call.CacheControl.{CacheControl}
use Rattle.cck_hasher.specs.declared.call.HashResult.{HashResult}
use Rattle.c_cache_keys.specs.declared.calls.Call.{Call}

module _ {I F V : Type 0} (value : I → V) (file_map : F → FileMap) (faults : F → ℕ) (c : Call I F) (after : F) where
  -- one call that was made, with the faults of its files before it and after it
  one_done : done_all value file_map faults (c ∷ []) (record c { files = after } ∷ []) ≡ done_in value file_map faults c after ∷ []
  one_done = refl

  one_call : calls_of (done_all value file_map faults (c ∷ []) (record c { files = after } ∷ [])) ≡ call_in value file_map faults c ∷ []
  one_call = refl

  module _ {S : Type 0} (w : World V) (st : Store S) (s t : S) where
    -- no calls have no results, and leave the store as it is
    none_returned : AreReturned value file_map faults w st s [] [] [] s
    none_returned = refl

    not_more : (r : Result HashResult KeyError) → AreReturned value file_map faults w st s [] [] (r ∷ []) t → ⊥
    not_more r returned = returned

    not_fewer : AreReturned value file_map faults w st s (c ∷ []) (c ∷ []) [] t → ⊥
    not_fewer returned = returned

module _ {I F : Type 0} (file_map : F → FileMap) (faults : F → ℕ) (is_quiet : F → Type 0) (c d : Call I F) where
  -- a call that was not made is as it was
  is_after_itself : IsAfter file_map faults is_quiet c c
  is_after_itself = record { same = refl; keeps = keeps_itself c.files }

  -- and one that was made has the control that it had
  same_control : IsAfter file_map faults is_quiet c d → ◌≡◌ {A = CacheControl} d.control c.control
  same_control is = ap (λ (v : Call I F). v.control) is.same

-- a fault is another cause than a missing file
fault_of_extra : result_of (Err (error.Extra (util.File file.Fault))) ≡ ReturnsError ExtraFault
fault_of_extra = refl

missing_extra : result_of (Err (error.Extra (util.File file.NotFound))) ≡ ReturnsError Extra
missing_extra = refl

missing_input : result_of (Err (error.Input (util.File file.NotFound))) ≡ ReturnsError Input
missing_input = refl

key_of_toolchain : toolchain_key (codes "/bin/cc") (codes "ab") ≡ lossy (codes "/bin/cc") ++ codes "-ab"
unfolding toolchain_key
key_of_toolchain = refl

first_list : (v : Vec ℕ) (vs : List (Vec ℕ)) → lists_of (v ∷ vs) ≡ v.items ∷ lists_of vs
first_list v vs = refl
