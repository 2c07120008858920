-- The first part of a call.
use Rattle.std.proofs.Common.{◌≡◌, ℕ, zero, suc, ◌<◌, Bool, true, false, ◌&&◌, List, [], ◌∷◌, length, map, Option, Some, None, Result, Ok, Err, refl, sym, ap, ◌∙◌, arith, subst}
use Rattle.std.specs.Prelude.{IfSome, IsOkAnd, is_none, slice_index_or, string_bytes}
use Rattle.std.specs.Global.{Vec}
use Rattle.std.specs.Option.{option_and_then, option_map}
use Rattle.std.specs.Result.{result_ok}
use Rattle.std.proofs.lemmas.Option.{none-some, same_Some}
use Rattle.cck_digest.specs.Digest.{digest_text}
use Rattle.cck_digest.specs.declared.error.FileError.{FileError}
use Rattle.cck_digest.specs.declared.error.FileError.TheVariants as file
use Rattle.cck_digest.specs.declared.error.UtilError.{UtilError}
use Rattle.cck_digest.specs.declared.error.UtilError.TheVariants as util
use Rattle.cck_files.proofs.MaterialLemmas.{no_material_of_error}
use Rattle.cck_files.specs.FileDigest.{IsFirstError, paths_of, text_and, digest_text_at, texts}
use Rattle.cck_files.specs.FolderText.{digest_material}
use Rattle.cck_files.specs.Errors.{IsDigestError}
use Rattle.cck_files.specs.Calls.{IsError}
use Rattle.cck_files.specs.FileMap.{FileMap, FileNode, file_at}
use Rattle.cck_include.proofs.ErrorLemmas.{by_file_error}
use Rattle.cck_include.specs.Recorded.{recorded}
use Rattle.cck_include.specs.Errors.{IsIoError}
use Rattle.cck_digest.specs.KeyError.{extra_error}
use Rattle.cck_digest.specs.declared.key_error.KeyError.{KeyError}
use Rattle.cck_digest.specs.declared.key_error.KeyError.TheVariants as key
use Rattle.cck_path.specs.Bytes.{Bytes, lists_of}
use Rattle.cck_path.specs.Path.{Path, components}
use Rattle.cck_compiler.specs.PreprocessorKey.{preprocessor_key, preprocessor_material}
use Rattle.cck_digest.specs.declared.entry_error.Error.{Error}
use Rattle.cck_hasher.specs.Call.{Call}
use Rattle.cck_util.specs.Language.{is_preprocessed_first}
use Rattle.cck_hasher.specs.Keys.{extra_texts, input_file, input_recorded, is_direct, key_material, preprocessor_key_of, request_parts, uses_cache}
use Rattle.cck_hasher.specs.Opening.{IsInputDigest, IsInputError, IsKeyOfInput, IsOpening, IsPreprocessorKey, text_and_digest, text_of}
use Rattle.cck_hasher.specs.Errors.{key_error_of}
use Rattle.cck_hasher.specs.Seen.{why_of}
use Rattle.cck_hasher.specs.Step.{StopsOpening, extra_fault, no_extra, no_used_input, opening_lacks, used_input_fault}
use Rattle.cck_hasher.specs.Walk.{input_path}
use Rattle.cck_hasher.specs.World.{World, setting}
use Rattle.cck_hasher.specs.declared.hasher.opening.Opening.{Opening}
use Rattle.cck_hasher.specs.declared.hasher.opening.PreprocessorKey.{PreprocessorKey}

pub some_none : {A : Type 0} {x : A} {o : Option A} → o ≡ Some x → o ≡ None → ⊥
some_none is none = (none-some _ (sym none ∙ is))

true_false : (b : Bool) → b ≡ true → b ≡ false → ⊥
true_false b e f = cc

-- whether there is a value doesn't change by a function of it
pub is_none_map : {A B : Type 0} (f : A → B) (o : Option A) → is_none (option_map f o) ≡ is_none o
is_none_map f None = refl
is_none_map f (Some x) = refl

-- the components of written paths
pub paths_as : (written : List (Vec ℕ)) → paths_of written ≡ map components (lists_of written)
paths_as [] = refl
paths_as (v ∷ vs) = ap (λ ps. components v.items ∷ ps) (paths_as vs)

-- ---- digests of files

-- a path whose error is neither a fault nor lack of memory has no hex digest
module _ (hash : Bytes → Bytes) (files : FileMap) (F : Type 0) where
  no_text : (p : Path) → digest_material files p ≡ None → digest_text_at hash files p ≡ None
  unfolding digest_text_at
  no_text p e = ap (option_map (digest_text hash)) e

  texts_none : (ps : List Path) (i : ℕ) → i < length ps → digest_text_at hash files (slice_index_or ps i []) ≡ None → texts hash files ps ≡ None
  texts_none [] i h e = absurd (omega (h, arith))
  texts_none (p ∷ ps) zero h e = ap (λ o. text_and o (texts hash files ps)) e
  texts_none (p ∷ ps) (suc i) h e = ap (text_and (digest_text_at hash files p)) (texts_none ps i (omega (h, arith)) e) ∙ by (digest_text_at hash files p)
    where
      by : (o : Option Bytes) → text_and o None ≡ None
      by None = refl
      by (Some t) = refl

module _ {V : Type 0} (w : World V) (c : Call V) (F : Type 0) where
  stop_extra : (e : UtilError) (p : Path) → (digest_text_at w.hash c.files p ≡ None → extra_texts w c ≡ None) → IsDigestError c.files p F e → StopsOpening w c F (why_of (extra_error e))
  stop_extra util.Memory p none h = opening_lacks
  stop_extra util.Read p none h = absurd h
  stop_extra (util.File file.NotFound) p none h = no_extra (none (no_text w.hash c.files F p (no_material_of_error c.files p (util.File file.NotFound) (λ same. cc) h)))
  stop_extra (util.File file.OtherKind) p none h = no_extra (none (no_text w.hash c.files F p (no_material_of_error c.files p (util.File file.OtherKind) (λ same. cc) h)))
  stop_extra (util.File file.Fault) p none h = extra_fault h
  stop_extra (util.File file.Memory) p none h = absurd h
  stop_extra util.TooDeep p none h = no_extra (none (no_text w.hash c.files F p (no_material_of_error c.files p util.TooDeep (λ same. cc) h)))
  stop_extra util.TooLong p none h = absurd h
  stop_extra util.Write p none h = absurd h
  stop_extra util.IncompleteEscape p none h = absurd h
  stop_extra util.InvalidEscape p none h = absurd h
  stop_extra util.IncompleteHex p none h = absurd h
  stop_extra util.InvalidHex p none h = absurd h

  pub extra_failed : (e : UtilError) → IsFirstError w.hash c.files (map components c.request.arguments.extra_hash_files) F e → StopsOpening w c F (why_of (extra_error e))
  unfolding extra_texts
  extra_failed e r =
      stop_extra e (slice_index_or (map components c.request.arguments.extra_hash_files) r.at [])
      (texts_none w.hash c.files F (map components c.request.arguments.extra_hash_files) r.at r.within) r.cause

  -- the recorded digest of the input
  pub digest_of_input : (d : Option Bytes) (found : Result FileNode FileError) → found ≡ file_at c.files (components (input_path c))
      → IsOkAnd found (λ n. d ≡ recorded (setting w c) n) → IsInputDigest w c d
  unfolding input_file
  digest_of_input d (Ok n) is h = (n, ap result_ok (sym is), h)
  digest_of_input d (Err e) is h = absurd h

  -- the preprocessor key, where the input has such a digest, and where it has none
  abbrev with_digest : List Bytes → Bytes → Bytes × Bytes
  with_digest xs r = (preprocessor_key w.hash (request_parts w c.request (input_path c)) xs r, r)

  pub key_of_digest : (xs : List Bytes) (text r : Bytes) → IsInputDigest w c (Some r) → text ≡ preprocessor_key w.hash (request_parts w c.request (input_path c)) xs r
      → IsKeyOfInput w c xs (Some (text, r))
  key_of_digest xs text r (n, is, h) made = (n, is, ap (λ t. Some (t, r)) made ∙ ap (option_map (with_digest xs)) h)

  pub no_key_of_input : (xs : List Bytes) → IsInputDigest w c None → IsKeyOfInput w c xs None
  no_key_of_input xs (n, is, h) = (n, is, ap (option_map (with_digest xs)) h)

  pub input_failed : (e : Error) → IsIoError (file_at c.files (components (input_path c))) F e → IsInputError w c F (key_error_of e)
  input_failed e h = by_file_error (IsError (file_at c.files (components (input_path c))) F) (λ e. IsInputError w c F (key_error_of e)) e h tt (λ x at. at)

  no_input : (e : FileError) → file_at c.files (components (input_path c)) ≡ Err e → input_file w c ≡ None
  unfolding input_file
  no_input e is = ap result_ok is

  pub stop_input : (e : KeyError) (xs : List Bytes) → uses_cache w c.request ≡ true → extra_texts w c ≡ Some xs → IsInputError w c F e → StopsOpening w c F (why_of e)
  stop_input key.Memory xs used extra h = opening_lacks
  stop_input (key.Extra e) xs used extra h = absurd h
  stop_input (key.Input (util.File file.NotFound)) xs used extra h = no_used_input (some_none extra) used (no_input file.NotFound h)
  stop_input (key.Input (util.File file.OtherKind)) xs used extra h = no_used_input (some_none extra) used (no_input file.OtherKind h)
  stop_input (key.Input (util.File file.Fault)) xs used extra h = used_input_fault used h
  stop_input (key.Input (util.File file.Memory)) xs used extra h = absurd h
  stop_input (key.Input util.Memory) xs used extra h = absurd h
  stop_input (key.Input util.Read) xs used extra h = absurd h
  stop_input (key.Input util.TooDeep) xs used extra h = absurd h
  stop_input (key.Input util.TooLong) xs used extra h = absurd h
  stop_input (key.Input util.Write) xs used extra h = absurd h
  stop_input (key.Input util.IncompleteEscape) xs used extra h = absurd h
  stop_input (key.Input util.InvalidEscape) xs used extra h = absurd h
  stop_input (key.Input util.IncompleteHex) xs used extra h = absurd h
  stop_input (key.Input util.InvalidHex) xs used extra h = absurd h
  stop_input key.Store xs used extra h = absurd h
  stop_input (key.Entry e) xs used extra h = absurd h
  stop_input (key.Preprocess e) xs used extra h = absurd h
  stop_input key.Marker xs used extra h = absurd h

module _ {V : Type 0} (w : World V) (c : Call V) where
  pub texts_here : (xs : List Bytes) → texts w.hash c.files (map components c.request.arguments.extra_hash_files) ≡ Some xs → extra_texts w c ≡ Some xs
  unfolding extra_texts
  texts_here xs e = e

  pub used : (is_preprocessed_first c.request.arguments.language && (w.config.use_preprocessor_cache_mode && (is_none c.request.arguments.too_hard_for_preprocessor_cache_mode && is_direct c.request.env_vars))) ≡ uses_cache w c.request
  unfolding uses_cache
  used = refl

  key_unused : uses_cache w c.request ≡ false → preprocessor_key_of w c ≡ None
  unfolding preprocessor_key_of key_material
  key_unused off = rw off refl

  abbrev Pair : Type 0
  Pair = Bytes × Bytes

  key_used : (xs : List Bytes) (k : Option Pair) → uses_cache w c.request ≡ true → extra_texts w c ≡ Some xs → IsKeyOfInput w c xs k → preprocessor_key_of w c ≡ option_map (λ (p : Pair). p.0) k
  unfolding preprocessor_key_of key_material input_recorded
  key_used xs k used extra (n, is, made) =
      rw (used, extra, is) (by (recorded (setting w c) n)) ∙ ap (option_map (λ (p : Pair). p.0)) (sym made)
    where
      by : (o : Option Bytes) → option_map (digest_text w.hash) (option_map (preprocessor_material (request_parts w c.request (input_path c)) xs) o)
          ≡ option_map (λ (p : Pair). p.0) (option_map (λ r. (preprocessor_key w.hash (request_parts w c.request (input_path c)) xs r, r)) o)
      by None = refl
      by (Some r) = refl

  digest_used : (xs : List Bytes) (k : Option Pair) → IsKeyOfInput w c xs k → IfSome k (λ p. input_recorded w c ≡ Some (p.1))
  unfolding input_recorded
  digest_used xs None made = tt
  digest_used xs (Some p) (n, is, made) = ap (option_and_then (recorded (setting w c))) is ∙ by (recorded (setting w c) n) made
    where
      by : (o : Option Bytes) → Some p ≡ option_map (λ r. (preprocessor_key w.hash (request_parts w c.request (input_path c)) xs r, r)) o → o ≡ Some (p.1)
      by None e = absurd (none-some _ (sym e))
      by (Some r) e = ap Some (sym (ap (λ (q : Pair). q.1) (same_Some p _ e)))

  -- the preprocessor cache isn't used
  pub open_without : (o : Opening) → uses_cache w c.request ≡ false → extra_texts w c ≡ Some (map string_bytes o.extra_hashes.items) → o.key ≡ None → IsOpening w c o
  open_without o off extra none = record {
    opened = record { extra = some_none extra; input = λ on. absurd (true_false _ on off) };
    extra = extra;
    key = key_unused off ∙ ap (option_map text_of) (sym none);
    digest = subst (λ k. IfSome k (λ k. input_recorded w c ≡ Some (string_bytes k.input_digest))) (sym none) tt;
  }

  text_used : (k : Option PreprocessorKey) → option_map (λ (p : Pair). p.0) (option_map text_and_digest k) ≡ option_map text_of k
  text_used None = refl
  text_used (Some k) = refl

  digest_known : (k : Option PreprocessorKey) → IfSome (option_map text_and_digest k) (λ p. input_recorded w c ≡ Some (p.1)) → IfSome k (λ k. input_recorded w c ≡ Some (string_bytes k.input_digest))
  digest_known None h = tt
  digest_known (Some k) h = h

  -- it is used
  pub open_with : (o : Opening) → uses_cache w c.request ≡ true → extra_texts w c ≡ Some (map string_bytes o.extra_hashes.items)
      → IsKeyOfInput w c (map string_bytes o.extra_hashes.items) (option_map text_and_digest o.key) → IsOpening w c o
  open_with o used extra made = record {
    opened = record { extra = some_none extra; input = λ on. some_none (made.1) };
    extra = extra;
    key = key_used (map string_bytes o.extra_hashes.items) (option_map text_and_digest o.key) used extra made ∙ text_used o.key;
    digest = digest_known o.key (digest_used (map string_bytes o.extra_hashes.items) (option_map text_and_digest o.key) made);
  }

  key_by : (k : Option PreprocessorKey) → preprocessor_key_of w c ≡ option_map text_of k → IfSome k (λ k. input_recorded w c ≡ Some (string_bytes k.input_digest)) → IsPreprocessorKey w c k
  key_by None is digest = is
  key_by (Some k) is digest = (is, digest)

  -- the preprocessor key of a call
  pub opened_key : (o : Opening) → IsOpening w c o → IsPreprocessorKey w c o.key
  opened_key o opens = key_by o.key opens.key opens.digest
