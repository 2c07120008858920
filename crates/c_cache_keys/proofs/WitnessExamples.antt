-- The conditions of the laws of stored results, for the two calls of the witness.
use Rattle.std.proofs.Common.{◌≡◌, ◌&&◌, false, true, [], ◌∷◌, codes, cond, refl, sym, ap, ◌∙◌, Ok, Some, None}
use Rattle.std.specs.List.{AllZip, list_all}
use Rattle.std.specs.Option.{option_map}
use Rattle.std.proofs.lemmas.Option.{none-some}
use Rattle.cck_entry.specs.Find.{found_in}
use Rattle.cck_entry.specs.Results.{KeyResult}
use Rattle.cck_files.specs.FileMap.{FileNode, file_at}
use Rattle.cck_include.specs.Recorded.{has_time, has_timestamp}
use Rattle.cck_path.specs.Path.{Path, components}
use Rattle.cck_util.specs.MapLemmas.{map_store_laws}
use Rattle.cck_util.specs.MapStore.{State, call_begun, map_store, empty_state}
use Rattle.cck_path.specs.Bytes.{Bytes}
use Rattle.cck_util.specs.Store.{HoldsOnly, StoreFailure}
use Rattle.c_cache_keys.proofs.Runs.{headline, hit_is_plain, stays_sound}
use Rattle.c_cache_keys.proofs.Stored.{fresh_is_held, map_store_returns_stored, stored_key_is_returned}
use Rattle.c_cache_keys.proofs.Witness.{can_store, entry_is, entry_text, extra_is, first_step, found_again, matches_again, only_result, witness_bytes, witness_entry, witness_include, holds_entry, input_node, input_read, key_is, no_fault, plain_stamp, premises, same_parts, second_step, witness_object_key, witness_key, witness_size, asked_again}
use Rattle.cck_hasher.specs.Call.{CallResult, Fault, Keyed, calls_of}
use Rattle.c_cache_keys.specs.Hits.{IsUnrelated, SameRecords}
use Rattle.c_cache_keys.specs.Laws.{AllReturnStored, CanHit, Headline, IsTransparent, ReturnsStored}
use Rattle.c_cache_keys.specs.Premises.{Agree, IsSameFile}
use Rattle.cck_hasher.specs.Step.{OwnPair, Run, Sound, Step, found, matching}
use Rattle.cck_hasher.specs.Walk.{input_path}
use Rattle.c_cache_keys.specs.Witness.{first_call, printed_text, second_call, witness_done, witness_files, witness_run, witness_world}

-- after the first call the store holds its own pair, and nothing else under its key,
first_is_held : (bytes : Bytes) × OwnPair witness_world first_call witness_object_key witness_key bytes × HoldsOnly map_store holds_entry witness_key bytes
first_is_held =
    fresh_is_held witness_world map_store map_store_laws (witness_done first_call) empty_state holds_entry witness_key printed_text witness_object_key can_store (no_fault first_call)
    (first_step (Fault (witness_done first_call)))

-- the second call can hit,
can_hit : CanHit witness_world (witness_done second_call) witness_key (Keyed witness_object_key false)
can_hit = record { control = refl; key = key_is (codes "b.o"); no_fault = no_fault second_call; enough_memory = λ e. cc }

-- has the records of the first one,
same_records : SameRecords witness_world first_call second_call printed_text
same_records p n named file = (n, file, refl, refl)

-- and puts nothing, so that a third one could hit too
is_unrelated : IsUnrelated witness_world witness_key second_call (Keyed witness_object_key false)
is_unrelated key e = absurd cc

-- a file is the same for both,
same_file : (p : Path) (n : FileNode) → file_at witness_files p ≡ Ok n → IsSameFile witness_world first_call second_call p
same_file p n file = record {
  earlier = n;
  later = n;
  is_earlier = file;
  is_later = file;
  contents = refl;
  day = λ dated. refl;
  epoch = λ dated. refl;
  second = λ stamped.
      let plain : has_timestamp n.contents ≡ false = plain_stamp p n file in
      let both : true ≡ false = sym stamped ∙ plain in
      absurd cc;
}

-- and both agree
agree : Agree witness_world first_call second_call printed_text
unfolding has_time same_file
agree = record {
  parts = sym (same_parts (codes "b.o"));
  cwd = refl;
  extra = extra_is (codes "a.o") ∙ sym (extra_is (codes "b.o"));
  some_extra = λ none. (none-some _ (sym none ∙ extra_is (codes "a.o")));
  input = same_file (components (input_path first_call)) input_node (input_read (codes "a.o"));
  no_time = refl;
  included = λ p n named file. same_file p n file;
}

-- what the store holds between them is the first one's own pair
sound : Sound witness_world map_store holds_entry (first_call ∷ [])
sound =
    stays_sound witness_world map_store witness_size map_store_laws [] (witness_done first_call) empty_state holds_entry (Keyed witness_object_key true) (λ k bytes held. absurd (none-some _ held))
    (first_step (Fault (witness_done first_call)))

-- so the key that the second one has from the store is its plain key
second_is_transparent : IsTransparent witness_world second_call (Keyed witness_object_key false)
second_is_transparent =
    hit_is_plain witness_world map_store witness_size map_store_laws (first_call ∷ []) [] (witness_done second_call) holds_entry asked_again witness_object_key premises sound
    (second_step (Fault (witness_done second_call)))

-- the entry that the store holds has one result, whose key matches in the second call,
second_finds : found witness_world second_call witness_entry ≡ Some witness_object_key
unfolding found
second_finds =
    let all : list_all (matching witness_world second_call) (witness_include ∷ []) ≡ true = ap (λ b. b && true) (matches_again (codes "b.o")) in
    ap (option_map (λ (r : KeyResult). r.0)) (ap (found_in (matching witness_world second_call)) entry_is ∙ ap (λ b. cond b (Some only_result) None) all)

-- so the second call, if it can hit and there is no store failure, has no other result,
second_is_forced : (r : CallResult) (t : State) → CanHit witness_world (witness_done second_call) witness_key r → (StoreFailure map_store holds_entry t → ⊥)
    → Step witness_world map_store second_call (Fault (witness_done second_call)) holds_entry r t → (r ≡ Keyed witness_object_key false) × (t ≡ call_begun holds_entry)
second_is_forced r t can calm step =
    map_store_returns_stored witness_world (witness_done second_call) holds_entry t r witness_key witness_bytes witness_object_key witness_entry can calm
    (sym (found_again (Fault (witness_done second_call)))) entry_text second_finds step

-- and does what the second half of the headline says
second_returns_stored : ReturnsStored witness_world map_store (witness_done second_call) holds_entry (Keyed witness_object_key false) asked_again
second_returns_stored =
    stored_key_is_returned witness_world map_store (witness_done second_call) holds_entry asked_again (Keyed witness_object_key false) (second_step (Fault (witness_done second_call)))

-- both halves of the headline hold of the two calls
witness_headline : Headline witness_world map_store
witness_headline = headline witness_world map_store witness_size map_store_laws

witness_steps : Run witness_world map_store empty_state witness_run (Keyed witness_object_key true ∷ Keyed witness_object_key false ∷ []) asked_again
witness_steps = (holds_entry, first_step (Fault (witness_done first_call)), (asked_again, second_step (Fault (witness_done second_call)), refl))

both_halves : AllZip (IsTransparent witness_world) (calls_of witness_run) (Keyed witness_object_key true ∷ Keyed witness_object_key false ∷ [])
    × AllReturnStored witness_world map_store empty_state witness_run (Keyed witness_object_key true ∷ Keyed witness_object_key false ∷ []) asked_again
both_halves =
    let (first, second) = witness_headline empty_state asked_again witness_run (Keyed witness_object_key true ∷ Keyed witness_object_key false ∷ []) witness_steps in
    (first (λ k bytes held. (none-some _ held)) premises, second)
