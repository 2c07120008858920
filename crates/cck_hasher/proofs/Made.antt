-- Computing a key.
use Rattle.std.proofs.Common.{◌≡◌, ◌≢◌, ℕ, suc, ◌⊎◌, inl, inr, Bool, true, false, cond, List, [], ◌∷◌, map, Option, Some, None, Ok, Err, String, refl, sym, ap, ◌∙◌, subst}
use Rattle.std.proofs.lemmas.Bool.{eqb-true}
use Rattle.std.specs.Prelude.{◌==◌, length, string_bytes}
use Rattle.std.specs.FinMap.{empty, get}
use Rattle.std.specs.Global.{Vec}
use Rattle.std.specs.Option.{option_map}
use Rattle.std.specs.Result.{result_ok}
use Rattle.std.specs.declared.alloc.Global.{Global}
use Rattle.std.proofs.lemmas.Option.{same_Some}
use Rattle.cck_compiler.specs.Seen.{IsPrinted}
use Rattle.cck_digest.specs.Digest.{digest_text}
use Rattle.cck_digest.specs.declared.error.FileError.{FileError}
use Rattle.cck_digest.specs.declared.error.FileError.TheVariants as file
use Rattle.cck_entry.specs.Entry.{EntryText, added}
use Rattle.cck_files.specs.Calls.{IsErrorOrMemory}
use Rattle.cck_files.specs.FileMap.{FileNode, contents_at, file_at}
use Rattle.cck_include.specs.Gathered.{Digested, gathered}
use Rattle.cck_include.specs.Include.{Include}
use Rattle.cck_path.specs.Bytes.{Bytes}
use Rattle.cck_path.specs.Path.{components}
use Rattle.cck_util.specs.Store.{Store}
use Rattle.cck_util.specs.Key.{material}
use Rattle.cck_hasher.specs.declared.walk.Walk as walk
use Rattle.cck_hasher.specs.declared.walk.Walk.TheVariants as walked
use Rattle.cck_files.proofs.FileLemmas.{found_without_contents, found_with_contents}
use Rattle.cck_digest.specs.declared.key_error.KeyError.{KeyError}
use Rattle.cck_digest.specs.declared.key_error.KeyError.TheVariants as key
use Rattle.cck_digest.specs.declared.preprocess_error.PreprocessError.{PreprocessError}
use Rattle.cck_digest.specs.declared.preprocess_error.PreprocessError.TheVariants as text
use Rattle.cck_hasher.proofs.Includes.{added_alone}
use Rattle.cck_hasher.proofs.Opened.{some_none}
use Rattle.cck_hasher.specs.Call.{Call, Memory}
use Rattle.cck_hasher.specs.Included.{digested_of}
use Rattle.cck_util.specs.Language.{is_preprocessed_first}
use Rattle.cck_hasher.specs.Keys.{extra_texts, input_file, key_material, plain_key, plain_parts, preprocessor_key_of, printed, text_of, uses_cache}
use Rattle.cck_hasher.specs.Making.{IsPreprocessed, made_of}
use Rattle.cck_hasher.specs.Errors.{input_error, text_error}
use Rattle.cck_hasher.specs.Seen.{why_of}
use Rattle.cck_hasher.specs.Step.{Makes, Stores, StopsMaking, faulted, gives, input_fault, making_lacks, marker, no_input, no_key, no_text, none_recorded, puts, refused, stops, text_fault}
use Rattle.cck_hasher.specs.Storing.{IsPut}
use Rattle.cck_hasher.specs.Walk.{Accepted, AreRecorded, NotAccepted, Walk, input_path}
use Rattle.cck_hasher.specs.Walked.{IsWalked, digested_as}
use Rattle.cck_hasher.specs.World.{World}
use Rattle.cck_hasher.specs.declared.hasher.making.PreprocessedInput.{PreprocessedInput}

-- ---- lists

-- an empty list, and one that isn't
pub empty_list : {X : Type 0} (xs : List X) (b : Bool) → b ≡ (length xs == 0) → b ≡ true → xs ≡ []
empty_list [] b is e = refl
empty_list (x ∷ xs) b is e = absurd (zero_true (length xs) (sym is ∙ e))
  where
    zero_true : (n : ℕ) → (suc n == 0) ≡ true → ⊥
    zero_true n e = not_zero (eqb-true (suc n) 0 e)
      where
        not_zero : suc n ≡ 0 → ⊥
        not_zero e = cc

pub some_list : {X : Type 0} (xs : List X) (b : Bool) → b ≡ (length xs == 0) → b ≡ false → xs ≢ []
some_list [] b is e none = true_false (sym is ∙ e)
  where
    true_false : (0 == 0) ≡ false → ⊥
    true_false e = cc
some_list (x ∷ xs) b is e none = absurd cc

pub nothing_mapped : {X Y : Type 0} (f : X → Y) (xs : List X) → map f xs ≡ [] → xs ≡ []
nothing_mapped f [] e = refl
nothing_mapped f (x ∷ xs) e = absurd cc

nothing_from : {X Y : Type 0} (f : X → Y) (xs : List X) → xs ≡ [] → map f xs ≡ []
nothing_from f xs e = ap (map f) e

-- ---- the result of a walk

module _ {V : Type 0} (w : World V) (c : Call V) (text : Bytes) (F : Type 0) where
  pub refused_walk : (r : walk.Walk) → r ≡ walked.Refused → IsWalked w c text F (Ok r) → Walk w c text NotAccepted ⊎ F
  refused_walk r is h = subst (λ r. IsWalked w c text F (Ok r)) is h

  -- what a walk records, for the files that it returns
  abbrev pub RecordedAs : List Digested → Type 0
  RecordedAs ds = (includes : List Include) × AreRecorded w c text includes × (digested_as includes ≡ ds) × (gathered c.files c.moment ds ≡ Some includes)

  pub accepted_walk : (r : walk.Walk) (files : Vec (Vec ℕ × String Global)) → r ≡ walked.Accepted files → IsWalked w c text F (Ok r) → Walk w c text Accepted × RecordedAs (digested_of files.items)
  accepted_walk r files is h = by (subst (λ r. IsWalked w c text F (Ok r)) is h)
    where
      by : IsWalked w c text F (Ok (walked.Accepted files)) → Walk w c text Accepted × RecordedAs (digested_of files.items)
      by (walk, includes, are, same, gathers) = (walk, (includes, are, same, gathers))

module _ {V S : Type 0} (w : World V) (st : Store S) (c : Call V) (F : Type 0) where
  prints_text : (text : Bytes) → is_preprocessed_first c.request.arguments.language ≡ true → printed w c ≡ Some text → text_of w c ≡ Some text
  unfolding text_of
  prints_text text needs is = ap (λ b. cond b (printed w c) (option_map (λ n. n.contents) (input_file w c))) needs ∙ is

  no_preprocessor : (bytes : Bytes) (n : FileNode) → is_preprocessed_first c.request.arguments.language ≡ false → input_file w c ≡ Some n → n.contents ≡ bytes → text_of w c ≡ Some bytes
  unfolding text_of
  no_preprocessor bytes n needs is same =
      ap (λ b. cond b (printed w c) (option_map (λ n. n.contents) (input_file w c))) needs ∙ ap (option_map (λ (n : FileNode). n.contents)) is ∙ ap Some same

  -- the plain key of a text
  pub is_plain : (xs : List Bytes) (text : Bytes) → extra_texts w c ≡ Some xs → text_of w c ≡ Some text → plain_key w c ≡ Some (digest_text w.hash (material (plain_parts w c.request xs text)))
  unfolding plain_key
  is_plain xs text extra is = rw (extra, is) refl

  -- a language that needs no preprocessor has no preprocessor key
  without_cache : is_preprocessed_first c.request.arguments.language ≡ false → preprocessor_key_of w c ≡ None
  unfolding preprocessor_key_of key_material uses_cache
  without_cache needs = rw needs refl

  -- memory ran out, and nothing was put
  pub stop_memory : (s t : S) → t ≡ s → Makes w st c F s (made_of (Err key.Memory)) t
  stop_memory s t same = stops Memory making_lacks refl same

  -- the key of a text of which nothing is stored
  finished : (s : S) (found : String Global) (bytes : Bytes) → plain_key w c ≡ Some bytes → ((key : Bytes) → Stores w st c F key s s)
      → string_bytes found ≡ bytes → Makes w st c F s (made_of (Ok found)) s
  finished s found bytes plain stores is = gives (string_bytes found) (plain ∙ ap Some (sym is)) refl (stores (string_bytes found))

  -- the input is read where no preprocessor is needed
  pub from_input : (s : S) (found : String Global) (xs : List Bytes) (contents : Bytes) → is_preprocessed_first c.request.arguments.language ≡ false → extra_texts w c ≡ Some xs
      → contents_at c.files (components (input_path c)) ≡ Ok contents → string_bytes found ≡ digest_text w.hash (material (plain_parts w c.request xs contents))
      → Makes w st c F s (made_of (Ok found)) s
  unfolding contents_at input_file file_at
  from_input s found xs contents needs extra reads is =
      let (n, file, same) = found_with_contents (get c.files.nodes (components (input_path c))) contents reads in
      finished s found (digest_text w.hash (material (plain_parts w c.request xs contents))) (is_plain xs contents extra (no_preprocessor contents n needs (ap result_ok file) same))
      (λ key. no_key (without_cache needs) refl) is

  pub stop_input : (s : S) (e : FileError) → is_preprocessed_first c.request.arguments.language ≡ false → IsErrorOrMemory (contents_at c.files (components (input_path c))) F e
      → Makes w st c F s (made_of (Err (input_error e))) s
  unfolding contents_at input_file file_at
  stop_input s e needs h = stops (why_of (input_error e)) (why e h) refl refl
    where
      no_file : (e : FileError) → contents_at c.files (components (input_path c)) ≡ Err e → input_file w c ≡ None
      no_file e is = ap result_ok (found_without_contents (get c.files.nodes (components (input_path c))) e is)

      why : (e : FileError) → IsErrorOrMemory (contents_at c.files (components (input_path c))) F e → StopsMaking w c F (why_of (input_error e))
      why file.NotFound h = no_input needs (no_file file.NotFound h)
      why file.OtherKind h = no_input needs (no_file file.OtherKind h)
      why file.Fault h = input_fault needs h
      why file.Memory h = making_lacks

  pub stop_text : (s : S) (e : PreprocessError) (prints : Option Bytes) → is_preprocessed_first c.request.arguments.language ≡ true → prints ≡ printed w c → IsPrinted prints F (Err e)
      → Makes w st c F s (made_of (Err (text_error e))) s
  stop_text s text.Fault prints needs same h = stops _ (text_fault needs h) refl refl
  stop_text s text.Failed prints needs same h = stops _ (no_text needs (sym same ∙ h)) refl refl
  stop_text s text.Memory prints needs same h = stop_memory s s refl

  -- a text is printed, and there is no preprocessor key
  pub without_key : (s : S) (found : String Global) (xs : List Bytes) (text : Bytes) → is_preprocessed_first c.request.arguments.language ≡ true → extra_texts w c ≡ Some xs → printed w c ≡ Some text
      → preprocessor_key_of w c ≡ None → string_bytes found ≡ digest_text w.hash (material (plain_parts w c.request xs text)) → Makes w st c F s (made_of (Ok found)) s
  without_key s found xs text needs extra prints none is =
      finished s found (digest_text w.hash (material (plain_parts w c.request xs text))) (is_plain xs text extra (prints_text text needs prints)) (λ key. no_key none refl) is

  module _ (input : PreprocessedInput) (for : IsPreprocessed w c input) where
    abbrev printed_text : Bytes
    printed_text = input.text.now

    abbrev plain : Bytes
    plain = digest_text w.hash (material (plain_parts w c.request (map string_bytes input.extra_hashes.now) printed_text))

    plain_here : plain_key w c ≡ Some plain
    plain_here = is_plain (map string_bytes input.extra_hashes.now) printed_text for.extra (prints_text printed_text for.first for.prints)

    -- the text is refused
    pub refused_for : (s : S) (found : String Global) → Walk w c printed_text NotAccepted ⊎ F → string_bytes found ≡ plain → Makes w st c F s (made_of (Ok found)) s
    refused_for s found (inl walk) is = finished s found plain plain_here (λ key. refused printed_text for.prints walk refl) is
    refused_for s found (inr fault) is = finished s found plain plain_here (λ key. faulted fault refl) is

    -- the walk returns an error
    pub stop_walked : (s : S) (e : KeyError) → IsWalked w c printed_text F (Err e) → Makes w st c F s (made_of (Err e)) s
    stop_walked s key.Memory h = stops Memory making_lacks refl refl
    stop_walked s key.Marker h = stops _ (marker (some_none for.key) printed_text for.prints h) refl refl
    stop_walked s (key.Extra e) h = absurd h
    stop_walked s (key.Input e) h = absurd h
    stop_walked s key.Store h = absurd h
    stop_walked s (key.Entry e) h = absurd h
    stop_walked s (key.Preprocess e) h = absurd h

    -- the text is accepted, and names no file that is recorded
    pub nothing_named : (s : S) (found : String Global) → string_bytes found ≡ plain → Walk w c printed_text Accepted → (ds : List Digested) → ds ≡ [] → RecordedAs w c printed_text F ds
        → Makes w st c F s (made_of (Ok found)) s
    nothing_named s found is walk ds none (includes, are, same, gathers) =
        finished s found plain plain_here
        (λ key. none_recorded printed_text for.prints walk (subst (AreRecorded w c printed_text) (nothing_mapped (λ (i : Include). (i.digest, i.path)) includes (same ∙ none)) are) refl) is

    -- the text is accepted, and the entry of its files is put
    pub put_for : (ds : List Digested) → RecordedAs w c printed_text F ds → (G : Type 0) (s t : S) (found : String Global) (u : Unit {0}) → string_bytes found ≡ plain → Walk w c printed_text Accepted → ds ≢ []
        → IsPut st c.files c.moment ds input.key.now (string_bytes found) G s (Ok u) t → Makes w st c G s (made_of (Ok found)) t
    put_for ds (includes, are, same, gathers) G s t found u is walk some put =
        gives (string_bytes found) (plain_here ∙ ap Some (sym is)) refl (elim put [
          | inl none ↦ elim (none.1) [ inl fault ↦ faulted fault none.0 | inr missing ↦ absurd (some_none gathers missing) ]
          | inr (own, found_own, bytes, written, said, done) ↦ puts input.key.now bytes (record {
            is_key = for.key;
            is_plain = plain_here ∙ ap Some (sym is);
            text = printed_text;
            is_text = for.prints;
            accepted = walk;
            includes = includes;
            recorded = are;
            some = λ none. some (sym same ∙ nothing_from (λ (i : Include). (i.digest, i.path)) includes none);
            is_entry = subst (λ e. EntryText e bytes) (ap (added empty (string_bytes found)) (same_Some own includes (sym found_own ∙ gathers)) ∙ added_alone (string_bytes found) includes) written;
          }) said done
        ])
