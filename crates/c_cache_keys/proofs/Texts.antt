-- A step of a compiler with a text is a step of each world that prints this text.
use Rattle.std.proofs.Common.{◌≡◌, inr, List, [], true, cond, None, Option, Some, Ok, Err, refl, sym, ap, ◌∙◌, subst}
use Rattle.std.specs.Option.{option_map}
use Rattle.std.proofs.lemmas.Option.{same_Some}
use Rattle.cck_files.specs.FileMap.{FileNode, file_at}
use Rattle.cck_include.specs.Include.{Include}
use Rattle.cck_include.specs.Recorded.{recorded}
use Rattle.cck_path.specs.Bytes.{Bytes}
use Rattle.cck_path.specs.Path.{Path}
use Rattle.cck_util.specs.MapStore.{map_store, empty_state}
use Rattle.cck_util.specs.Store.{Stored}
use Rattle.cck_util.specs.declared.store.StoreError.TheVariants as store
use Rattle.cck_include.specs.declared.config.PreprocessorCacheModeConfig.{PreprocessorCacheModeConfig}
use Rattle.cck_digest.specs.Digest.{digest_text}
use Rattle.cck_util.specs.Key.{material}
use Rattle.jiff.specs.Types.{TimeZone}
use Rattle.c_cache_keys.proofs.Stored.{not_both, not_failed}
use Rattle.cck_hasher.specs.Call.{CallResult, Call, Keyed, ReturnsError, Why}
use Rattle.cck_util.specs.Language.{is_preprocessed_first}
use Rattle.cck_hasher.specs.Keys.{extra_texts, input_file, input_recorded, key_material, plain_key, plain_parts, preprocessor_key_of, printed, request_parts, text_of, uses_cache}
use Rattle.c_cache_keys.proofs.KeySame.{of_both}
use Rattle.cck_hasher.specs.Step.{Opened, OwnPair, Step, Stores, StopsMaking, StopsOpening, asked, extra_fault, faulted, gives, input_fault, made, making_lacks, marker, no_extra, no_input, no_key, no_text, no_used_input, none_recorded, opening_lacks, puts, refused, stopped, stops, text_fault, used_input_fault}
use Rattle.cck_hasher.specs.Walk.{Accepted, AreRecorded, Errs, IsGood, NotAccepted, Verdict, Walk}
use Rattle.cck_hasher.specs.World.{World, setting, world_of}
use Rattle.cck_hasher.specs.declared.call.CacheControl.TheVariants.{ForceRecache}
use Rattle.c_cache_keys.proofs.Names.{SameNames, all_recorded, walks}
use Rattle.c_cache_keys.specs.External.{External, Prints, external_compiler}
use Rattle.c_cache_keys.specs.LastPut.{IsKept, LastPut, last_put}
use Rattle.c_cache_keys.specs.Recordings.{key_of, state_with}
use Rattle.c_cache_keys.specs.TextCompiler.{WithText, call_with, text_compiler}

some_none : {A : Type 0} {x : A} → Some x ≡ None → ⊥
some_none e = cc

-- two calls of two worlds for which the same files are recorded of a text
pub record IsTwin {V U : Type 0} (w : World V) (c : Call V) (x : World U) (d : Call U) : Type 0 where
  pub names : SameNames w c x d
  pub prints : printed w c ≡ printed x d
  pub good : (p : Path) → IsGood w c p → IsGood x d p
  pub good_back : (p : Path) → IsGood x d p → IsGood w c p
  pub files : (p : Path) → file_at c.files p ≡ file_at d.files p
  pub digests : (n : FileNode) → recorded (setting w c) n ≡ recorded (setting x d) n

recorded_over : {V U : Type 0} (w : World V) (c : Call V) (x : World U) (d : Call U) → IsTwin w c x d → (text : Bytes) (includes : List Include) → AreRecorded w c text includes → AreRecorded x d text includes
recorded_over w c x d twin text includes are =
    all_recorded w c x d twin.names text (λ p n file. sym (twin.files p) ∙ file) twin.digests (λ p n is file. twin.files p ∙ file) includes are

module _ (hash : Bytes → Bytes) (zone : TimeZone) (config : PreprocessorCacheModeConfig) (basedirs : List Bytes) where
  abbrev pub text_world : World WithText
  text_world = world_of hash text_compiler zone config basedirs

  module _ (prints : Prints) (text : Bytes) (c : Call External) where
    abbrev pub real_world : World External
    real_world = world_of hash (external_compiler prints) zone config basedirs

    abbrev pub text_call : Call WithText
    text_call = call_with text c

    extra_same : extra_texts text_world text_call ≡ extra_texts real_world c
    unfolding extra_texts
    extra_same = refl

    input_same : input_file text_world text_call ≡ input_file real_world c
    unfolding input_file
    input_same = refl

    used_same : uses_cache text_world text_call.request ≡ uses_cache real_world c.request
    unfolding uses_cache
    used_same = refl

    key_same : preprocessor_key_of text_world text_call ≡ preprocessor_key_of real_world c
    unfolding preprocessor_key_of key_material request_parts uses_cache extra_texts input_recorded input_file
    key_same = refl

    printed_text : printed text_world text_call ≡ Some text
    unfolding printed
    printed_text = refl

    opened : Opened text_world text_call → Opened real_world c
    opened o = record { extra = λ e. o.extra (extra_same ∙ e); input = λ used none. o.input (used_same ∙ used) (input_same ∙ none) }

    stops_opening : (F : Type 0) (why : Why) → StopsOpening text_world text_call F why → StopsOpening real_world c F why
    stops_opening F why opening_lacks = opening_lacks
    stops_opening F why (no_extra none) = no_extra (sym extra_same ∙ none)
    stops_opening F why (extra_fault fault) = extra_fault fault
    stops_opening F why (no_used_input extra used none) = no_used_input (λ missing. extra (extra_same ∙ missing)) (sym used_same ∙ used) (sym input_same ∙ none)
    stops_opening F why (used_input_fault used fault) = used_input_fault (sym used_same ∙ used) fault

    module _ (is : printed real_world c ≡ Some text) where
      there : IsTwin text_world text_call real_world c
      there = record {
        names = record { config = refl; path = λ name. refl; input = refl };
        prints = printed_text ∙ sym is;
        good = λ p good. good;
        good_back = λ p good. good;
        files = λ p. refl;
        digests = λ n. refl;
      }

      plain_same : plain_key text_world text_call ≡ plain_key real_world c
      unfolding plain_key text_of extra_texts plain_parts input_file printed
      plain_same =
          ap (λ o. of_both (λ extra_hashes t. digest_text hash (material (plain_parts real_world c.request extra_hashes t))) (extra_texts real_world c)
          (cond (is_preprocessed_first c.request.arguments.language) o (option_map (λ (n : FileNode). n.contents) (input_file real_world c))))
          (sym is)

      prints_too : (t : Bytes) → printed text_world text_call ≡ Some t → printed real_world c ≡ Some t
      prints_too t is-t = is ∙ sym printed_text ∙ is-t

      walks_too : (t : Bytes) (v : Verdict) → Walk text_world text_call t v → Walk real_world c t v
      walks_too t v walk = walks text_world text_call real_world c there.names there.good there.good_back t v walk

      records_too : (t : Bytes) (includes : List Include) → AreRecorded text_world text_call t includes → AreRecorded real_world c t includes
      records_too t includes are = recorded_over text_world text_call real_world c there t includes are

      stops_making : (F : Type 0) (why : Why) → StopsMaking text_world text_call F why → StopsMaking real_world c F why
      stops_making F why making_lacks = making_lacks
      stops_making F why (no_text needs none) = absurd (some_none (sym printed_text ∙ none))
      stops_making F why (text_fault needs fault) = text_fault needs fault
      stops_making F why (no_input needs none) = no_input needs (sym input_same ∙ none)
      stops_making F why (input_fault needs fault) = input_fault needs fault
      stops_making F why (marker has t is-t walk) = marker (λ none. has (key_same ∙ none)) t (prints_too t is-t) (walks_too t Errs walk)

      own_pair : (key k bytes : Bytes) → OwnPair text_world text_call key k bytes → OwnPair real_world c key k bytes
      own_pair key k bytes own = record {
        is_key = sym key_same ∙ own.is_key;
        is_plain = sym plain_same ∙ own.is_plain;
        text = own.text;
        is_text = prints_too own.text own.is_text;
        accepted = walks_too own.text Accepted own.accepted;
        includes = own.includes;
        recorded = records_too own.text own.includes own.recorded;
        some = own.some;
        is_entry = own.is_entry;
      }

      module _ (F : Type 0) where
        -- what was kept of a put is put into a store in memory
        kept : (k bytes : Bytes) (from_store : Stored) (put : Option (Bytes × Bytes)) → IsKept (Some None) k bytes from_store (Some put) → put ≡ Some (k, bytes)
        kept k bytes (Ok done) put is-kept = same_Some put (Some (k, bytes)) is-kept
        kept k bytes (Err store.Fault) put is-kept = absurd is-kept
        kept k bytes (Err store.Memory) put is-kept = absurd (some_none is-kept)

        -- nothing is put into either store
        left : (key : Bytes) (put : Option (Bytes × Bytes)) → ◌≡◌ {A = LastPut} (Some put) (Some None) → Stores real_world map_store c F key empty_state empty_state
            → Stores real_world map_store c F key empty_state (state_with put)
        left key put same stores = subst (λ v. Stores real_world map_store c F key empty_state (state_with v)) (sym (same_Some put None same)) stores

        stores_there : (key : Bytes) (put : Option (Bytes × Bytes)) → Stores text_world last_put text_call F key (Some None) (Some put)
            → Stores real_world map_store c F key empty_state (state_with put)
        stores_there key put (puts k bytes own stored done) = subst (λ v. Stores real_world map_store c F key empty_state (state_with v)) (sym (kept k bytes stored put done))
            (puts k bytes (own_pair key k bytes own) (Ok tt) (refl, refl))
        stores_there key put (no_key none same) = left key put same (no_key (sym key_same ∙ none) refl)
        stores_there key put (refused t is-t walk same) = left key put same (refused t (prints_too t is-t) (walks_too t NotAccepted walk) refl)
        stores_there key put (none_recorded t is-t walk none same) = left key put same (none_recorded t (prints_too t is-t) (walks_too t Accepted walk) (records_too t [] none) refl)
        stores_there key put (faulted fault same) = left key put same (faulted fault refl)

        module _ (control : c.control ≡ ForceRecache) where
          -- a key
          pub recorded_there : (r : CallResult) (key : Bytes) (put : Option (Bytes × Bytes)) → key_of r ≡ Some key → Step text_world last_put text_call F (Some None) r (Some put)
              → Step real_world map_store c F empty_state (Keyed key true) (state_with put)
          recorded_there r key put keyed (stopped why cause is-r same) = absurd (some_none (sym keyed ∙ ap key_of is-r))
          recorded_there r key put keyed (made o not (stops why cause is-r same)) = absurd (some_none (sym keyed ∙ ap key_of is-r))
          recorded_there r key put keyed (made o not (gives other plain is-r stores)) =
              let same : other ≡ key = same_Some other key (sym (ap key_of is-r) ∙ keyed) in
              made (opened o) (inr control)
              (gives other (sym plain_same ∙ plain) (ap (λ v. Keyed v true) (sym same)) (stores_there other put stores))
          recorded_there r key put keyed (asked o k is-k default a mid got b given ends) = absurd (not_both (sym default ∙ control))

          -- an error
          pub error_there : (why : Why) (s t : LastPut) → Step text_world last_put text_call F s (ReturnsError why) t
              → Step real_world map_store c F empty_state (ReturnsError why) empty_state
          error_there why s t (stopped other cause is-r same) = stopped other (stops_opening F other cause) is-r refl
          error_there why s t (made o not (stops other cause is-r same)) = made (opened o) (inr control) (stops other (stops_making F other cause) is-r refl)
          error_there why s t (made o not (gives key plain is-r stores)) = absurd (not_failed (sym is-r))
          error_there why s t (asked o k is-k default a mid got b given ends) = absurd (not_both (sym default ∙ control))
