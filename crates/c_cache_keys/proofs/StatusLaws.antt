-- The laws of calls that ask with statuses.
use Rattle.std.proofs.Common.{◌≡◌, inl, inr, Bool, true, false, ◌&&◌, ◌||◌, List, [], ◌∷◌, ◌++◌, refl, sym, ap, subst, ◌∙◌, append_assoc, Option, Some, None, Ok}
use Rattle.std.specs.Prelude.{Contains}
use Rattle.std.specs.FinMap.{entries, get}
use Rattle.std.specs.List.{list_all}
use Rattle.cck_entry.proofs.StatusLemmas.{without_statuses}
use Rattle.cck_entry.specs.Entry.{Entry, EntryText}
use Rattle.cck_entry.specs.Find.{found_in}
use Rattle.cck_entry.specs.Results.{KeyResult}
use Rattle.cck_entry.specs.Statuses.{Statuses, known_accepts, matches_with}
use Rattle.cck_files.specs.FileMap.{FileNode, file_at}
use Rattle.cck_include.specs.Include.{Include}
use Rattle.cck_path.specs.Bytes.{Bytes}
use Rattle.cck_path.specs.Path.{components}
use Rattle.cck_path.specs.declared.metadata.Metadata.{Metadata}
use Rattle.cck_util.specs.Store.{Returned, Store, StoreLaws, Stored}
use Rattle.std.proofs.lemmas.List.Elements.{Contains-append_left, Contains-append_right}
use Rattle.cck_hasher.proofs.Elements.{first_in, later_in, one_of, only_one}
use Rattle.cck_hasher.proofs.Includes.{same_ok}
use Rattle.c_cache_keys.proofs.Runs.{headline, stays_sound}
use Rattle.cck_hasher.specs.Call.{Call, CallResult, Done, Fault, calls_of}
use Rattle.cck_hasher.specs.Step.{Gives, OwnPair, Run, Sound, Step, asked, damaged, lacked, matched, matching, no_bytes, nothing, store_failed, store_lacked, unmatched}
use Rattle.c_cache_keys.specs.Witness.{first_call, second_call, witness_files, witness_run}
use Rattle.cck_hasher.specs.World.{HasSize, World, setting}
use Rattle.c_cache_keys.proofs.Finds.{found_same}
use Rattle.c_cache_keys.proofs.KeepingLemmas.{each_same, headline_keeping, headline_on_earlier, same_result, sound_is_each, stays_sound_each, stays_sound_onto}
use Rattle.c_cache_keys.proofs.StatusLemmas.{accepted_matches}
use Rattle.c_cache_keys.specs.AdditionLaws.{HeadlineByStatusesKeeping, HeadlineByStatusesOnEarlier, RunByStatusesKeeping, RunByStatusesOnEarlier}
use Rattle.c_cache_keys.specs.Keeping.{AddsTo, EachOwn, IsHeldOrEmpty, RunKeeping, SoundEach}
use Rattle.c_cache_keys.specs.KeepingLaws.{RunOnEarlier}
use Rattle.c_cache_keys.specs.SnapshotLaws.{HeadlineByStatuses, HonestTimesCanHold, NoStatusesIsStep, StatusesAreMatches, StepIsStep}
use Rattle.c_cache_keys.specs.Statuses.{AreStatuses, HonestTimes, RunByStatuses, StepByStatuses, TimesTell, by_statuses, matching_with, plain}

or_absorbs : (a b : Bool) → (a ≡ true → b ≡ true) → (a || b) ≡ b
or_absorbs true b h = sym (h refl)
or_absorbs false b h = refl

-- tests that agree on the elements of a list
all_same : {X : Type 0} (p q : X → Bool) (xs : List X) → ((x : X) → Contains xs x → p x ≡ q x) → list_all p xs ≡ list_all q xs
all_same p q [] h = refl
all_same p q (x ∷ xs) h =
    ap (λ b. b && list_all p xs) (h x (first_in x xs)) ∙ ap (λ b. q x && b) (all_same p q xs (λ y at. h y (later_in x y xs at)))

module _ {V : Type 0} (w : World V) (size : HasSize w.hash) where
  pub statuses_are_matches : StatusesAreMatches w
  unfolding matches_with
  statuses_are_matches c d statuses key k bytes own i at right tell =
      or_absorbs (known_accepts i (get statuses (components i.path))) (matching w d i) (by (get statuses (components i.path)) refl)
    where
      by : (o : Option Metadata) → get statuses (components i.path) ≡ o → known_accepts i o ≡ true → matching w d i ≡ true
      by None is e = absurd cc
      by (Some m) is e = accepted_matches w size c d key k bytes own i at tell m (right (components i.path) m is) e

  -- each result of the entry is the own one of a call whose times tell
  abbrev IsTold : Call V → Entry → Type 0
  IsTold d e =
      (key : Bytes) (list : List Include) → Contains (entries e) (key, list)
      → (c : Call V) × TimesTell c d × (k : Bytes) × (one : Bytes) × (own : OwnPair w c key k one) × (own.includes ≡ list)

  -- so are the results of earlier calls, where times are honest
  pub told_each : (earlier later : List (Call V)) (d : Call V) → HonestTimes w (earlier ++ d ∷ later) → (k : Bytes) (e : Entry) → EachOwn w earlier k e → IsTold d e
  told_each earlier later d honest k e each key list at =
      let (one, alone, c, earlier_has, own) = each key list at in
      (c, honest c d (earlier, d ∷ later, refl, earlier_has, first_in d later), k, one, own, (same_result key key own.includes list one own.is_entry alone).1)

  module _ (d : Call V) (F : Type 0) (statuses : Statuses) (right : AreStatuses d.files statuses) where
    abbrev m : Include → Bool
    m = matching w d

    abbrev with : Include → Bool
    with = matching_with w statuses d

    -- the tests agree on the results of such an entry
    pub same_test : (e : Entry) → IsTold d e → (r : KeyResult) → Contains (entries e) r → list_all with (r.1) ≡ list_all m (r.1)
    same_test e told (key, list) at =
        let (c, tell, k, one, own, is) = told key list at in
        subst (λ l. list_all with l ≡ list_all m l) is (all_same with m own.includes (λ i has. statuses_are_matches c d statuses key k one own i has right tell))

    same_found : (e : Entry) → IsTold d e → found_in m (entries e) ≡ found_in with (entries e)
    same_found e told = found_same m with (entries e) (λ r at. sym (same_test e told r at))

    gives_told : (returned : Returned) (o : Option CallResult) → ((bytes : Bytes) (e : Entry) → returned ≡ Ok (Some bytes) → EntryText e bytes → IsTold d e) → Gives with F returned o → Gives m F returned o
    gives_told returned o told (store_failed is) = store_failed is
    gives_told returned o told (store_lacked is) = store_lacked is
    gives_told returned o told (nothing is) = nothing is
    gives_told returned o told (no_bytes is) = no_bytes is
    gives_told returned o told (matched bytes key e list is text at all which) =
        matched bytes key e list is text at (sym (same_test e (told bytes e is text) (key, list) at) ∙ all)
        (elim which [ inl found ↦ inl (same_found e (told bytes e is text) ∙ found) | inr fault ↦ inr fault ])
    gives_told returned o told (unmatched bytes e is text which) =
        unmatched bytes e is text (elim which [ inl found ↦ inl (same_found e (told bytes e is text) ∙ found) | inr fault ↦ inr fault ])
    gives_told returned o told (damaged bytes is some none) = damaged bytes is some none
    gives_told returned o told (lacked bytes is) = lacked bytes is

module _ {V S : Type 0} (w : World V) (st : Store S) where
  pub no_statuses_is_step : NoStatusesIsStep w st
  no_statuses_is_step d s t r asks =
      asked asks.opened asks.key asks.is_key asks.control asks.returned asks.mid asks.got asks.outcome
      (subst (λ test. Gives test (Fault d) asks.returned asks.outcome) (without_statuses _ (setting w d.call) d.call.files refl) asks.gives) asks.ends

module _ {V S : Type 0} (w : World V) (st : Store S) (size : HasSize w.hash) (laws : StoreLaws st) where
  -- what such a call does where each returned entry has results of earlier calls; its puts may be any
  step_any : (put : S → Bytes → Bytes → Stored → S → Type 0) (earlier later : List (Call V)) (d : Call V) (F : Type 0) (s t : S) (r : CallResult) → HonestTimes w (earlier ++ d ∷ later)
      → SoundEach w st s earlier → StepByStatuses w (record st { put = put }) d F s r t → Step w (record st { put = put }) d F s r t
  step_any put earlier later d F s t r honest sound (plain step) = step
  step_any put earlier later d F s t r honest sound (by_statuses statuses right asks) =
      asked asks.opened asks.key asks.is_key asks.control asks.returned asks.mid asks.got asks.outcome
      (gives_told w size d F statuses right asks.returned asks.outcome told asks.gives) asks.ends
    where
      told : (bytes : Bytes) (e : Entry) → asks.returned ≡ Ok (Some bytes) → EntryText e bytes → IsTold w size d e
      told bytes e is text =
          let (f, other, each) = sound asks.key bytes (laws.got_some s asks.mid asks.key bytes (subst (λ v. st.got s asks.key v asks.mid) is asks.got)) in
          told_each w size earlier later d honest asks.key e (each_same w earlier asks.key bytes f e other text each)

  pub step_is_step : StepIsStep w st
  step_is_step earlier later d s t r honest sound step = step_any st.put earlier later d.call (Fault d) s t r honest (sound_is_each w st size laws s earlier sound) step

  from_sound : (earlier : List (Call V)) (s t : S) (done : List (Done V)) (call_results : List CallResult) → HonestTimes w (earlier ++ calls_of done) → Sound w st s earlier
      → RunByStatuses w st s done call_results t → Run w st s done call_results t
  from_sound earlier s t [] [] honest sound run = run
  from_sound earlier s t [] (r ∷ rs) honest sound run = absurd run
  from_sound earlier s t (d ∷ ds) [] honest sound run = absurd run
  from_sound earlier s t (d ∷ ds) (r ∷ rs) honest sound (mid, step, rest) =
      let plain_step = step_is_step earlier (calls_of ds) d s mid r honest sound step in (
        mid,
        plain_step,
        from_sound (earlier ++ d.call ∷ []) mid t ds rs (subst (HonestTimes w) (sym (append_assoc earlier (d.call ∷ []) (calls_of ds))) honest)
            (stays_sound w st size laws earlier d s mid r sound plain_step) rest,
      )

  -- the first half of the headline
  pub headline_by_statuses : HeadlineByStatuses w st
  headline_by_statuses s t done call_results run none honest premises =
      (headline w st size laws s t done call_results (from_sound [] s t done call_results honest (λ k b h. absurd (none k b h)) run)).0 none premises

-- ---- calls that add their results

module _ {V S : Type 0} (w : World V) (st : Store S) (size : HasSize w.hash) (laws : StoreLaws st) where
  -- times are honest for the rest of a run
  honest_rest : (earlier : List (Call V)) (d : Done V) (done : List (Done V)) → HonestTimes w (earlier ++ calls_of (d ∷ done)) → HonestTimes w ((earlier ++ d.call ∷ []) ++ calls_of done)
  honest_rest earlier d done honest = subst (HonestTimes w) (sym (append_assoc earlier (d.call ∷ []) (calls_of done))) honest

  onto_run : (earlier : List (Call V)) (s t : S) (done : List (Done V)) (call_results : List CallResult) → HonestTimes w (earlier ++ calls_of done) → SoundEach w st s earlier
      → RunByStatusesOnEarlier w st earlier s done call_results t → RunOnEarlier w st earlier s done call_results t
  onto_run earlier s t [] [] honest sound run = run
  onto_run earlier s t [] (r ∷ rs) honest sound run = absurd run
  onto_run earlier s t (d ∷ ds) [] honest sound run = absurd run
  onto_run earlier s t (d ∷ ds) (r ∷ rs) honest sound (mid, step, rest) =
      let plain_step = step_any w st size laws (AddsTo (EachOwn w earlier) st) earlier (calls_of ds) d.call (Fault d) s mid r honest sound step in
      (mid, plain_step, onto_run (earlier ++ d.call ∷ []) mid t ds rs (honest_rest earlier d ds honest) (stays_sound_onto w st size laws earlier d s mid r sound plain_step) rest)

  pub headline_by_statuses_on_earlier : HeadlineByStatusesOnEarlier w st
  headline_by_statuses_on_earlier earlier s t done call_results run sound honest premises =
      headline_on_earlier w st size laws earlier s t done call_results sound (onto_run earlier s t done call_results honest sound run) premises

  keeping_run : (earlier : List (Call V)) (s t : S) (done : List (Done V)) (call_results : List CallResult) → HonestTimes w (earlier ++ calls_of done) → SoundEach w st s earlier
      → RunByStatusesKeeping w st s done call_results t → RunKeeping w st s done call_results t
  keeping_run earlier s t [] [] honest sound run = run
  keeping_run earlier s t [] (r ∷ rs) honest sound run = absurd run
  keeping_run earlier s t (d ∷ ds) [] honest sound run = absurd run
  keeping_run earlier s t (d ∷ ds) (r ∷ rs) honest sound (mid, step, rest) =
      let plain_step = step_any w st size laws (AddsTo (IsHeldOrEmpty st s) st) earlier (calls_of ds) d.call (Fault d) s mid r honest sound step in
      (mid, plain_step, keeping_run (earlier ++ d.call ∷ []) mid t ds rs (honest_rest earlier d ds honest) (stays_sound_each w st size laws earlier d s mid r sound plain_step) rest)

  pub headline_by_statuses_keeping : HeadlineByStatusesKeeping w st
  headline_by_statuses_keeping s t done call_results run none honest premises =
      (headline_keeping w st size laws s t done call_results (keeping_run [] s t done call_results honest (λ k b held. absurd (none k b held)) run)).0 none premises

-- ---- the witness

witness_call_files : (c : Call (Unit {0})) → Contains (calls_of witness_run) c → c.files ≡ witness_files
witness_call_files c at =
    elim (one_of first_call c (second_call ∷ []) at) [
      | inl is ↦ ap (λ (v : Call (Unit {0})). v.files) (sym is)
      | inr more ↦ ap (λ (v : Call (Unit {0})). v.files) (sym (only_one second_call c more))
    ]

pub honest_times_can_hold : HonestTimesCanHold
honest_times_can_hold c d before p n o file file' long modified changed old =
    let (xs, ys, is, first, second) = before in
    let in_c : Contains (calls_of witness_run) c = subst (λ l. Contains l c) (sym is) (Contains-append_left xs ys c first) in
    let in_d : Contains (calls_of witness_run) d = subst (λ l. Contains l d) (sym is) (Contains-append_right xs ys d second) in
    let same : c.files ≡ d.files = witness_call_files c in_c ∙ sym (witness_call_files d in_d) in
    ap (λ (v : FileNode). v.contents) (same_ok n o (sym file ∙ ap (λ f. file_at f p) same ∙ file'))
