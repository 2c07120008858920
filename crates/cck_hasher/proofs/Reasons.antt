-- Each error gives its reason.
use Rattle.std.proofs.Common.{Ok, Err, map, List, Result}
use Rattle.std.specs.Prelude.{IfErr}
use Rattle.std.specs.FinMap.{get}
use Rattle.cck_digest.specs.declared.error.FileError.{FileError}
use Rattle.cck_digest.specs.declared.error.FileError.TheVariants as file
use Rattle.cck_digest.specs.declared.error.UtilError.{UtilError}
use Rattle.cck_digest.specs.declared.error.UtilError.TheVariants as util
use Rattle.cck_files.specs.FileDigest.{IsFirstError}
use Rattle.cck_files.specs.Errors.{IsDigestError, IsFileErrorAt}
use Rattle.cck_files.proofs.FileLemmas.{found_without_contents}
use Rattle.cck_files.proofs.CallsLemmas.{error_by}
use Rattle.cck_files.specs.Calls.{IsErrorOrMemory}
use Rattle.cck_files.specs.FileMap.{FileMap, contents_at, file_at}
use Rattle.cck_digest.specs.KeyError.{extra_error}
use Rattle.cck_digest.specs.declared.key_error.KeyError.{KeyError}
use Rattle.cck_digest.specs.declared.key_error.KeyError.TheVariants as key
use Rattle.cck_digest.specs.declared.preprocess_error.PreprocessError.{PreprocessError}
use Rattle.cck_digest.specs.declared.preprocess_error.PreprocessError.TheVariants as text
use Rattle.cck_path.specs.Bytes.{Bytes}
use Rattle.cck_path.specs.Path.{Path, components}
use Rattle.cck_hasher.specs.Call.{Call}
use Rattle.cck_hasher.specs.Opening.{IsInputError}
use Rattle.cck_hasher.specs.Reasons.{IsFileReason}
use Rattle.cck_hasher.specs.Errors.{input_error, text_error}
use Rattle.cck_hasher.specs.Walk.{input_path}
use Rattle.cck_hasher.specs.World.{World}

-- ---- a fault of a part is one of the whole

module _ (F G : Type 0) (more : F → G) where
  wide_file : (fm : FileMap) (p : Path) (e : FileError) → IsFileErrorAt fm p F e → IsFileErrorAt fm p G e
  wide_file fm p file.NotFound h = h
  wide_file fm p file.OtherKind h = h
  wide_file fm p file.Fault h = more h
  wide_file fm p file.Memory h = h

  wide_digest : (fm : FileMap) (p : Path) (e : UtilError) → IsDigestError fm p F e → IsDigestError fm p G e
  wide_digest fm p util.Memory h = h
  wide_digest fm p util.Read h = h
  wide_digest fm p (util.File e) h = wide_file fm p e h
  wide_digest fm p util.TooDeep h = h
  wide_digest fm p util.TooLong h = h
  wide_digest fm p util.Write h = h
  wide_digest fm p util.IncompleteEscape h = h
  wide_digest fm p util.InvalidEscape h = h
  wide_digest fm p util.IncompleteHex h = h
  wide_digest fm p util.InvalidHex h = h

  wide_first : (hash : Bytes → Bytes) (fm : FileMap) (paths : List Path) (e : UtilError) → IsFirstError hash fm paths F e → IsFirstError hash fm paths G e
  wide_first hash fm paths e r = record { at = r.at; within = r.within; earlier = r.earlier; cause = wide_digest fm _ e r.cause }

  module _ {V : Type 0} (w : World V) (c : Call V) where
    pub wide_reason : (e : KeyError) → IsFileReason w c F e → IsFileReason w c G e
    wide_reason key.Memory h = h
    wide_reason (key.Extra e) h = (h.0, wide_first w.hash c.files _ e h.1)
    wide_reason (key.Input (util.File e)) h = error_by _ F G e more h
    wide_reason (key.Input util.Memory) h = h
    wide_reason (key.Input util.Read) h = h
    wide_reason (key.Input util.TooDeep) h = h
    wide_reason (key.Input util.TooLong) h = h
    wide_reason (key.Input util.Write) h = h
    wide_reason (key.Input util.IncompleteEscape) h = h
    wide_reason (key.Input util.InvalidEscape) h = h
    wide_reason (key.Input util.IncompleteHex) h = h
    wide_reason (key.Input util.InvalidHex) h = h
    wide_reason key.Store h = h
    wide_reason (key.Entry e) h = h
    wide_reason (key.Preprocess e) h = h
    wide_reason key.Marker h = h

    pub wide_if : {X : Type 0} (r : Result X KeyError) → IfErr r (IsFileReason w c F) → IfErr r (IsFileReason w c G)
    wide_if (Ok x) h = tt
    wide_if (Err e) h = wide_reason e h

-- ---- reasons of files

module _ {V : Type 0} (w : World V) (c : Call V) (F : Type 0) where
  -- an extra file has no digest
  pub extra_reason : (e : UtilError) → IsFirstError w.hash c.files (map components c.request.arguments.extra_hash_files) F e → IsFileReason w c F (extra_error e)
  extra_reason util.Memory r = tt
  extra_reason util.Read r = ((λ e. cc), r)
  extra_reason (util.File e) r = ((λ e. cc), r)
  extra_reason util.TooDeep r = ((λ e. cc), r)
  extra_reason util.TooLong r = ((λ e. cc), r)
  extra_reason util.Write r = ((λ e. cc), r)
  extra_reason util.IncompleteEscape r = ((λ e. cc), r)
  extra_reason util.InvalidEscape r = ((λ e. cc), r)
  extra_reason util.IncompleteHex r = ((λ e. cc), r)
  extra_reason util.InvalidHex r = ((λ e. cc), r)

  -- there is no preprocessor key
  pub key_reason : (e : KeyError) → IsInputError w c F e → IsFileReason w c F e
  key_reason key.Memory h = tt
  key_reason (key.Extra e) h = absurd h
  key_reason (key.Input e) h = h
  key_reason key.Store h = absurd h
  key_reason (key.Entry e) h = absurd h
  key_reason (key.Preprocess e) h = absurd h
  key_reason key.Marker h = absurd h

  -- the input can't be read where no preprocessor is needed
  pub input_reason : (e : FileError) → IsErrorOrMemory (contents_at c.files (components (input_path c))) F e → IsFileReason w c F (input_error e)
  unfolding contents_at file_at
  input_reason file.NotFound h = found_without_contents (get c.files.nodes (components (input_path c))) file.NotFound h
  input_reason file.OtherKind h = found_without_contents (get c.files.nodes (components (input_path c))) file.OtherKind h
  input_reason file.Fault h = h
  input_reason file.Memory h = tt

  pub text_reason : (e : PreprocessError) → IsFileReason w c F (text_error e)
  text_reason text.Fault = λ e. cc
  text_reason text.Failed = λ e. cc
  text_reason text.Memory = tt
