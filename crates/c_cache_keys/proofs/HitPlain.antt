-- A stored key that comes from an earlier call's own pair is the plain key.
use Rattle.std.proofs.Common.{◌≡◌, ◌≢◌, Bool, true, false, List, refl, sym, ap, ◌∙◌, subst, None, Some, Ok}
use Rattle.std.specs.Prelude.{Contains}
use Rattle.std.specs.FinMap.{empty, entries, insert}
use Rattle.std.specs.List.{list_all}
use Rattle.std.proofs.lemmas.List.Elements.{Contains-append_left, Contains-append_right}
use Rattle.cck_entry.proofs.LawLemmas.{one_text_one_entry}
use Rattle.cck_entry.specs.Entry.{Entry, EntryText}
use Rattle.cck_entry.specs.Results.{KeyResult}
use Rattle.cck_files.specs.FileMap.{FileNode, file_at}
use Rattle.cck_include.specs.Include.{Include}
use Rattle.cck_include.specs.Recorded.{has_time, recorded}
use Rattle.cck_path.specs.Bytes.{Bytes}
use Rattle.cck_path.specs.Path.{Path, components}
use Rattle.cck_path.specs.Text.{path_text}
use Rattle.cck_hasher.proofs.Elements.{each_passes, only_one}
use Rattle.cck_hasher.proofs.Includes.{components-meant, entries-alone, match_known}
use Rattle.c_cache_keys.proofs.KeySame.{cwd_is_determined, input_known, key_known, material_same, path_is_determined, plain_same, used_prints}
use Rattle.c_cache_keys.proofs.RecordedSame.{recorded_same}
use Rattle.cck_hasher.specs.Call.{Call}
use Rattle.cck_hasher.specs.Keys.{extra_texts, input_recorded, key_material, plain_key, preprocessor_key_of, printed, request_parts, uses_cache}
use Rattle.c_cache_keys.specs.Premises.{Agree, IsBefore, IsSameFile, Premises, of_file, of_key, of_time}
use Rattle.cck_hasher.specs.Step.{OwnPair, matching}
use Rattle.cck_hasher.specs.Walk.{AreRecorded, IsNamed, input_path}
use Rattle.cck_hasher.specs.World.{HasSize, World, setting}

-- the result in the entry of one result
pub only_result : (e : Entry) (key found : Bytes) (includes list : List Include) (bytes : Bytes) → EntryText e bytes → EntryText (insert empty key includes) bytes
    → Contains (entries e) (found, list) → (found ≡ key) × (list ≡ includes)
only_result e key found includes list bytes text own at =
    let same : e ≡ insert empty key includes = (one_text_one_entry e (insert empty key includes) bytes bytes text own).0 refl in
    let is = only_one (key, includes) (found, list) (subst (λ es. Contains es (found, list)) (ap entries same ∙ entries-alone key includes) at) in
    (ap (λ (r : KeyResult). r.0) (sym is), ap (λ (r : KeyResult). r.1) (sym is))

-- the components of the written path of a named file are that path
pub components-named : {V : Type 0} (w : World V) (c : Call V) (text : Bytes) (p : Path) → IsNamed w c text p → components (path_text p) ≡ p
components-named w c text p named =
    ap (λ q. components (path_text q)) named.is ∙ components-meant c.request.cwd named.name ∙ sym named.is

module _ {V : Type 0} (w : World V) (size : HasSize w.hash) (calls : List (Call V)) (premises : Premises w calls) (c d : Call V) (before : IsBefore w calls c d) where
  in_first : Contains calls c
  in_first = let (xs, ys, is, at, at') = before in subst (λ l. Contains l c) (sym is) (Contains-append_left xs ys c at)

  in_second : Contains calls d
  in_second = let (xs, ys, is, at, at') = before in subst (λ l. Contains l d) (sym is) (Contains-append_right xs ys d at')

  -- files with equal recorded digests
  file_same : (p : Path) (n o : FileNode) (r : Bytes) → file_at c.files p ≡ Ok n → file_at d.files p ≡ Ok o → recorded (setting w c) n ≡ Some r → recorded (setting w d) o ≡ Some r
      → (same : IsSameFile w c d p) × (has_time same.earlier.contents ≡ false)
  file_same p n o r file file' e f =
      recorded_same w size premises.options.ignore_time_macros c d p n o r file file' e f
      (premises.hash c d _ _ in_first in_second (of_file p n file refl) (of_file p o file' refl))
      (λ x y timed timed' is is'. premises.hash c d x y in_first in_second (of_time p n file timed is) (of_time p o file' timed' is'))

  -- calls with one preprocessor key and equal parts have one directory
  same_cwd : (k : Bytes) → preprocessor_key_of w c ≡ Some k → preprocessor_key_of w d ≡ Some k → request_parts w c.request (input_path c) ≡ request_parts w d.request (input_path d)
      → c.request.cwd ≡ d.request.cwd
  same_cwd k is-c is-d parts = by w.config.hash_working_directory refl
    where
      by : (b : Bool) → w.config.hash_working_directory ≡ b → c.request.cwd ≡ d.request.cwd
      by true on = cwd_is_determined w c.request d.request (input_path c) (input_path d) parts on
      by false off = ap (λ q. q.cwd) (premises.requests off c d k in_first in_second is-c is-d)

  -- what follows from one preprocessor key
  abbrev SameKey : Type 0
  SameKey =
      (uses_cache w c.request ≡ true) × (request_parts w c.request (input_path c) ≡ request_parts w d.request (input_path d)) × (c.request.cwd ≡ d.request.cwd)
      × (extra_texts w c ≡ extra_texts w d) × (extra_texts w c ≢ None) × (r : Bytes) × (input_recorded w c ≡ Some r) × (input_recorded w d ≡ Some r)

  key_agrees : (k : Bytes) → preprocessor_key_of w c ≡ Some k → preprocessor_key_of w d ≡ Some k → SameKey
  key_agrees k is-c is-d =
      let (mc, is-mc, k-mc) = key_known w c k is-c in
      let (md, is-md, k-md) = key_known w d k is-d in
      go mc md is-mc is-md (premises.hash c d mc md in_first in_second (of_key is-mc) (of_key is-md) (sym k-mc ∙ k-md))
    where
      go : (mc md : Bytes) → key_material w c ≡ Some mc → key_material w d ≡ Some md → mc ≡ md → SameKey
      go mc md is-mc is-md same =
          let (used, parts, extra, some_extra, r, digest-c, digest-d) = material_same w c d mc is-mc (is-md ∙ ap Some (sym same)) in
          (used, parts, same_cwd k is-c is-d parts, extra, some_extra, r, digest-c, digest-d)

  abbrev InputSame : Type 0
  InputSame = (same : IsSameFile w c d (components (input_path c))) × (has_time same.earlier.contents ≡ false)

  input_same : (r : Bytes) → request_parts w c.request (input_path c) ≡ request_parts w d.request (input_path d) → input_recorded w c ≡ Some r → input_recorded w d ≡ Some r → InputSame
  input_same r parts digest-c digest-d =
      let (n, file-n, rec-n) = input_known w c r digest-c in
      let (o, file-o, rec-o) = input_known w d r digest-d in
      file_same (components (input_path c)) n o r file-n
      (ap (λ path. file_at d.files (components path)) (path_is_determined w c.request d.request (input_path c) (input_path d) parts) ∙ file-o) rec-n rec-o

  -- a regular file that the earlier text names is the same file, where all that was recorded matches in the later call
  named_same : (text : Bytes) (includes : List Include) → AreRecorded w c text includes → list_all (matching w d) includes ≡ true
      → (p : Path) (n : FileNode) → IsNamed w c text p → file_at c.files p ≡ Ok n → IsSameFile w c d p
  named_same text includes recorded_all all_match p n named file =
      let (i, at, written) = recorded_all.all p n named file in
      let of_path = recorded_all.each i at in
      let read : components i.path ≡ p = ap components written ∙ components-named w c text p named in
      let own : of_path.path ≡ p = sym (components-named w c text of_path.path of_path.named) ∙ ap components (sym of_path.written) ∙ read in
      let (o, file-o, rec-o) = match_known (setting w d) d.files i p premises.options.file_stat_matches read (each_passes (matching w d) includes i all_match at) in
      (file_same p of_path.node o i.digest (ap (file_at c.files) (sym own) ∙ of_path.file) file-o of_path.digest rec-o).0

  -- a key that is found in the own pair of the earlier call
  pub hit_plain : (key k bytes : Bytes) → OwnPair w c key k bytes → preprocessor_key_of w d ≡ Some k → (e : Entry) (found : Bytes) (list : List Include) → EntryText e bytes
      → Contains (entries e) (found, list) → list_all (matching w d) list ≡ true → plain_key w d ≡ Some found
  hit_plain key k bytes own is-k e found list text at all_match =
      let (same_key, same_list) = only_result e key found own.includes list bytes text own.is_entry at in
      go same_key (ap (list_all (matching w d)) (sym same_list) ∙ all_match) (key_agrees k own.is_key is-k)
    where
      go : found ≡ key → list_all (matching w d) own.includes ≡ true → SameKey → plain_key w d ≡ Some found
      go same_key all_match (used, parts, cwd, extra, some_extra, r, digest-c, digest-d) =
          let input = input_same r parts digest-c digest-d in
          let agree : Agree w c d own.text = record {
            parts = parts;
            cwd = cwd;
            extra = extra;
            some_extra = some_extra;
            input = input.0;
            no_time = input.1;
            included = named_same own.text own.includes own.recorded all_match;
          }
          in
          let prints : printed w d ≡ Some own.text = premises.compiler c d own.text before own.is_text own.accepted agree in
          sym (plain_same w c d own.text (used_prints w c.request used) agree own.is_text prints) ∙ own.is_plain ∙ ap Some (sym same_key)
