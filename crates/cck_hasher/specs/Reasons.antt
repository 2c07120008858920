-- the reason that an error gives
use Rattle.std.specs.Prelude.{◌≡◌, ◌≢◌, map, Some, Ok, Err}
use Rattle.cck_digest.specs.declared.error.UtilError.{UtilError}
use Rattle.cck_digest.specs.declared.error.UtilError.TheVariants as util
use Rattle.cck_entry.specs.Entry.{Reads}
use Rattle.cck_files.specs.FileDigest.{IsFirstError}
use Rattle.cck_files.specs.Calls.{IsError}
use Rattle.cck_files.specs.FileMap.{file_at}
use Rattle.cck_digest.specs.declared.key_error.KeyError.{KeyError}
use Rattle.cck_digest.specs.declared.key_error.KeyError.TheVariants as error
use Rattle.cck_digest.specs.declared.preprocess_error.PreprocessError.TheVariants as text
use Rattle.cck_path.specs.Bytes.{Bytes}
use Rattle.cck_path.specs.Path.{components}
use Rattle.cck_util.specs.Store.{Store}
use Rattle.cck_digest.specs.declared.entry_error.Error.{Error}
use Rattle.cck_digest.specs.declared.entry_error.Error.TheVariants as entry
use Rattle.cck_hasher.specs.Call.{Call}
use Rattle.cck_hasher.specs.Keys.{preprocessor_key_of}
use Rattle.cck_hasher.specs.Walk.{input_path}
use Rattle.cck_hasher.specs.World.{World}

-- Here and below F says that there was a fault.
module _ {V : Type 0} (w : World V) (c : Call V) (F : Type 0) where
  -- why the input can't be read
  abbrev pub IsInputReason : UtilError → Type 0
  IsInputReason (util.File e) = IsError (file_at c.files (components (input_path c))) F e
  IsInputReason _ = ⊥

  -- the reason of an error that is caused by files: for an extra file it is that of the first one without a digest
  abbrev pub IsFileReason : KeyError → Type 0
  IsFileReason error.Memory = Unit {0}
  IsFileReason (error.Extra e) = (e ≢ util.Memory) × IsFirstError w.hash c.files (map components c.request.arguments.extra_hash_files) F e
  IsFileReason (error.Input e) = IsInputReason e
  IsFileReason error.Store = ⊥
  IsFileReason (error.Entry e) = ⊥
  IsFileReason (error.Preprocess e) = e ≢ text.Memory
  IsFileReason error.Marker = Unit {0}

module _ {S : Type 0} (st : Store S) (k : Bytes) (s t : S) where
  -- under this key the store returned bytes that are no entry, for this reason
  pub record IsNoEntry (e : Error) : Type 0 where
    pub other : e ≢ entry.Memory
    pub bytes : Bytes
    pub got : st.got s k (Ok (Some bytes)) t
    pub reads : Reads (Err e) bytes

  -- the reason of an error that is caused by asking the store under this key
  abbrev pub IsStoreReason : KeyError → Type 0
  IsStoreReason error.Memory = Unit {0}
  IsStoreReason error.Store = Unit {0}
  IsStoreReason (error.Entry e) = IsNoEntry e
  IsStoreReason _ = ⊥

module _ {V S : Type 0} (w : World V) (st : Store S) (c : Call V) (F : Type 0) (s t : S) where
  -- the reason of any error
  abbrev pub IsReason : KeyError → Type 0
  IsReason error.Store = Unit {0}
  IsReason (error.Entry e) = (k : Bytes) × (preprocessor_key_of w c ≡ Some k) × IsNoEntry st k s t e
  IsReason other = IsFileReason w c F other
