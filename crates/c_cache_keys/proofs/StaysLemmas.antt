-- Held results stay, and are returned.
use Rattle.std.proofs.Common.{◌≡◌, ◌⊎◌, inl, inr, ◌≤◌, Bool, true, false, List, [], ◌∷◌, length, refl, sym, ap, ◌∙◌, subst, le_refl, le_trans, Ok, Err, Option, Some, None}
use Rattle.std.specs.Prelude.{Contains}
use Rattle.std.specs.FinMap.{entries}
use Rattle.std.specs.List.{list_all}
use Rattle.std.specs.Str.{bytes_eq}
use Rattle.std.proofs.lemmas.Bool.{false≢true}
use Rattle.std.proofs.lemmas.Option.{same_Some}
use Rattle.std.proofs.lemmas.Slice.Eq.{bytes_eq-Decides}
use Rattle.cck_entry.proofs.LawLemmas.{one_text_one_entry}
use Rattle.cck_entry.specs.Entry.{Entry, EntryText, added, is_over}
use Rattle.cck_include.specs.Include.{Include}
use Rattle.cck_path.specs.Bytes.{Bytes}
use Rattle.cck_util.specs.Store.{HoldsOnly, Returned, Store, StoreFailure, StoreLaws, Stored}
use Rattle.cck_hasher.proofs.Elements.{all_pass, first_in, later_in}
use Rattle.c_cache_keys.proofs.Stored.{calm_part, record_matches, same_key, stored_key_is_returned, stores_own}
use Rattle.cck_hasher.specs.Call.{Call, CallResult, Done, Fault, Keyed}
use Rattle.c_cache_keys.specs.Hits.{CanStore, SameRecords}
use Rattle.cck_hasher.specs.Step.{Ends, OwnPair, Stores, matching}
use Rattle.cck_hasher.specs.World.{World}
use Rattle.c_cache_keys.proofs.AddedLemmas.{added_is_in, others_stay}
use Rattle.c_cache_keys.proofs.Finds.{found_some}
use Rattle.c_cache_keys.proofs.KeepingLemmas.{same_result}
use Rattle.c_cache_keys.proofs.Outcomes.{Comes, Puts, Reaches, computes, leaves, makes_comes, step_comes, stores_puts}
use Rattle.c_cache_keys.specs.Keeping.{AddsTo, IsHeldEntry, IsHeldOrEmpty, StepOnto, adding, failed, no_entry, nothing}
use Rattle.c_cache_keys.specs.KeepingLaws.{Displaces, HoldsResult, NewIsHeld, ResultIsReturned, ResultStays, RunOnHeld, StoredIsHitEach}

-- bytes are equal or not
equal_or_not : (a b : Bytes) → (a ≡ b) ⊎ (a ≡ b → ⊥)
equal_or_not a b = by (bytes_eq a b) refl
  where
    by : (v : Bool) → bytes_eq a b ≡ v → (a ≡ b) ⊎ (a ≡ b → ⊥)
    by true is = inl ((bytes_eq-Decides a b).0 is)
    by false is = inr (λ same. false≢true (sym is ∙ (bytes_eq-Decides a b).1 same))

module _ {V S : Type 0} (w : World V) (st : Store S) (laws : StoreLaws st) where
  abbrev Calm : S → S → Type 0
  Calm s t = StoreFailure st s t → ⊥

  -- ---- the count of store failures never falls

  module _ (base : Bytes → Entry → Type 0) (c : Call V) (F : Type 0) (s : S) where
    reached_count : (mid : S) → Reaches w (adding base st) c F s mid → st.failures s ≤ st.failures mid
    reached_count mid (inl is) = rw is (le_refl _)
    reached_count mid (inr (k, returned, got)) = laws.got_count s mid k returned got

    put_count : (key : Bytes) (mid t : S) → Puts w (adding base st) c F s key mid t → st.failures mid ≤ st.failures t
    put_count key mid t (inl same) = rw same (le_refl _)
    put_count key mid t (inr (k, one, own, stored, a)) = laws.put_count mid t k a.bytes stored a.put

    comes_count : (r : CallResult) (t : S) → Comes w (adding base st) c F s r t → st.failures s ≤ st.failures t
    comes_count r t (leaves mid reached same fresh) = rw same (reached_count mid reached)
    comes_count r t (computes key mid reached is plain stores) =
        le_trans (reached_count mid reached) (put_count key mid t (stores_puts w (adding base st) c F s key mid t stores))

    step_count : (r : CallResult) (t : S) → StepOnto w st base c F s r t → st.failures s ≤ st.failures t
    step_count r t step = comes_count r t (step_comes w (adding base st) c F s r t step)

  -- ---- one call

  module _ (c : Call V) (F : Type 0) (s end : S) (calm : Calm s end) (k : Bytes) (e : Entry) (key : Bytes) (list : List Include) (h : HoldsResult st s k e key list) where
    abbrev held_base : Bytes → Entry → Type 0
    held_base = IsHeldEntry st s end

    abbrev Stays : S → CallResult → Type 0
    Stays t r = ((f : Entry) × HoldsResult st t k f key list) ⊎ Displaces w c r k e key

    reached_holds : (mid : S) → Calm s mid → Reaches w (adding held_base st) c F s mid → HoldsResult st mid k e key list
    reached_holds mid quiet (inl is) = subst (λ v. HoldsResult st v k e key list) (sym is) h
    reached_holds mid quiet (inr (q, returned, got)) = record {
      bytes = h.bytes;
      only = (laws.got_calm s mid q returned got quiet k h.bytes h.only.0, λ others held. h.only.1 others (laws.got_old s mid q returned got k others held));
      is_text = h.is_text;
      has = h.has;
    }

    -- the entry to which a result is added is the held one
    base_is : (onto : Entry) → held_base k onto → onto ≡ e
    base_is onto (inl (bytes, held, text)) = (one_text_one_entry onto e bytes h.bytes text h.is_text).0 (h.only.1 bytes held)
    base_is onto (inr (is, failed failure)) = absurd (calm failure)
    base_is onto (inr (is, nothing none)) = absurd (none h.bytes h.only.0)
    base_is onto (inr (is, no_entry bytes held none)) = absurd (none e (subst (EntryText e) (sym (h.only.1 bytes held)) h.is_text))

    -- a result was added to the held entry: the first is still there, or displaced
    add_stays : (r : CallResult) (t : S) (new one bytes : Bytes) (own : OwnPair w c new k one) → r ≡ Keyed new true → HoldsOnly st t k bytes → EntryText (added e new own.includes) bytes → Stays t r
    add_stays r t new one bytes own is only text = by (is_over e (length own.includes)) refl (equal_or_not key new)
      where
        by : (b : Bool) → is_over e (length own.includes) ≡ b → (key ≡ new) ⊎ (key ≡ new → ⊥) → Stays t r
        by true over either = inr (record { new = new; is_computed = is; one = one; own = own; why = inr over })
        by false under (inl same) = inr (record { new = new; is_computed = is; one = one; own = own; why = inl (sym same) })
        by false under (inr other) =
            inl (added e new own.includes, record { bytes = bytes; only = only; is_text = text; has = others_stay e new own.includes key list under other h.has })

    put_stays : (r : CallResult) (mid t : S) (new q one : Bytes) (stored : Stored) → r ≡ Keyed new true → Calm mid t → HoldsResult st mid k e key list → OwnPair w c new q one
        → AddsTo held_base st mid q one stored t → Stays t r
    put_stays r mid t new q one stored is quiet here own a = by (equal_or_not k q)
      where
        old_of : (k ≡ q → ⊥) → (others : Bytes) → st.held t k others → others ≡ here.bytes
        old_of other others held =
            elim (laws.put_old mid t q a.bytes stored a.put k others held) [ inl old ↦ here.only.1 others old | inr new ↦ absurd (other new.0) ]

        here_own : k ≡ q → OwnPair w c new k one
        here_own same = subst (λ v. OwnPair w c new v one) (sym same) own

        text_of : (same : k ≡ q) → EntryText (added e new (here_own same).includes) a.bytes
        text_of same =
            let same_one = same_result a.key new a.includes (here_own same).includes one a.is_one (here_own same).is_entry in
            let base : held_base k a.onto = subst (λ v. held_base v a.onto) (sym same) a.is_base in
            subst (λ f. EntryText (added f new (here_own same).includes) a.bytes) (base_is a.onto base)
            (subst (λ v. EntryText (added a.onto v (here_own same).includes) a.bytes) same_one.0
            (subst (λ v. EntryText (added a.onto a.key v) a.bytes) same_one.1 a.is_text))

        by : (k ≡ q) ⊎ (k ≡ q → ⊥) → Stays t r
        by (inl same) =
            add_stays r t new one a.bytes (here_own same) is (subst (λ v. HoldsOnly st t v a.bytes) (sym same) (laws.put_new mid t q a.bytes stored a.put quiet)) (text_of same)
        by (inr other) =
            inl (
              e,
              record {
                bytes = here.bytes;
                only = (laws.put_calm mid t q a.bytes stored a.put quiet k here.bytes other here.only.0, old_of other);
                is_text = here.is_text;
                has = here.has;
              },
            )

    stays_by : (r : CallResult) → Comes w (adding held_base st) c F s r end → Stays end r
    stays_by r (leaves mid reached same fresh) =
        let at = reached_holds mid (λ failure. calm (subst (λ v. StoreFailure st s v) (sym same) failure)) reached in
        inl (e, subst (λ v. HoldsResult st v k e key list) (sym same) at)
    stays_by r (computes new mid reached is plain stores) =
        by (stores_puts w (adding held_base st) c F s new mid end stores)
      where
        by : Puts w (adding held_base st) c F s new mid end → Stays end r
        by put =
            let up = reached_count held_base c F s mid reached in
            let on = put_count held_base c F s new mid end put in
            let at = reached_holds mid (calm_part _ _ _ _ (le_refl _) up on calm) reached in
            go put (calm_part _ _ _ _ up on (le_refl _) calm) at
          where
            go : Puts w (adding held_base st) c F s new mid end → Calm mid end → HoldsResult st mid k e key list → Stays end r
            go (inl same) quiet at = inl (e, subst (λ v. HoldsResult st v k e key list) (sym same) at)
            go (inr (q, one, own, stored, a)) quiet at = put_stays r mid end new q one stored is quiet at own a

  pub result_stays : ResultStays w st
  result_stays d s t r k e key list h calm step = stays_by d.call (Fault d) s t calm k e key list h r (step_comes w (adding (IsHeldEntry st s t) st) d.call (Fault d) s r t step)

  -- ---- what a miss leaves

  module _ (d : Done V) (s t : S) (k text : Bytes) (can : CanStore w d k text) (calm : Calm s t) where
    abbrev any_base : Bytes → Entry → Type 0
    any_base = IsHeldOrEmpty st s

    abbrev NewHeld : Bytes → Type 0
    NewHeld key = (one : Bytes) × (own : OwnPair w d.call key k one) × (e : Entry) × HoldsResult st t k e key own.includes

    stores_held : (mid : S) (key : Bytes) → Reaches w (adding any_base st) d.call (Fault d) s mid → Stores w (adding any_base st) d.call (Fault d) key mid t → NewHeld key
    stores_held mid key reached stores =
        let (one, own, stored, a) = stores_own w (adding any_base st) d mid t k text key can stores in
        let same = same_result a.key key a.includes own.includes one a.is_one own.is_entry in
        let is_text = subst (λ v. EntryText (added a.onto v own.includes) a.bytes) same.0 (subst (λ v. EntryText (added a.onto a.key v) a.bytes) same.1 a.is_text) in
        let up = reached_count any_base d.call (Fault d) s mid reached in
        let on = laws.put_count mid t k a.bytes stored a.put in (
          one,
          own,
          added a.onto key own.includes,
          record {
            bytes = a.bytes;
            only = laws.put_new mid t k a.bytes stored a.put (calm_part _ _ _ _ up on (le_refl _) calm);
            is_text = is_text;
            has = added_is_in a.onto key own.includes;
          },
        )

    new_held : (key : Bytes) → Comes w (adding any_base st) d.call (Fault d) s (Keyed key true) t → NewHeld key
    new_held key (leaves mid reached same fresh) = absurd (fresh key refl)
    new_held key (computes other mid reached is plain stores) = subst NewHeld (sym (same_key is)) (stores_held mid other reached stores)

  pub new_is_held : NewIsHeld w st
  new_is_held d s t k text key can calm step = new_held d s t k text can calm key (step_comes w (adding (IsHeldOrEmpty st s) st) d.call (Fault d) s (Keyed key true) t step)

  -- ---- what is returned of what is held

  ends_count : (base : Bytes → Entry → Type 0) (c : Call V) (F : Type 0) (o : Option CallResult) (mid t : S) (r : CallResult) → Ends w (adding base st) c F o mid r t → st.failures mid ≤ st.failures t
  ends_count base c F (Some x) mid t r ends = rw (ends.1) (le_refl _)
  ends_count base c F None mid t r ends = comes_count base c F mid r t (makes_comes w (adding base st) c F mid mid t r (inl refl) ends)

  pub result_is_returned : ResultIsReturned w st
  result_is_returned d s t r k e key list h all can calm step =
      let (returned, mid, got, says, o, given, ends) = stored_key_is_returned w (adding (IsHeldOrEmpty st s) st) d s t r step k can in
      let (greatest, includes, is) = found_some (matching w d.call) (entries e) key list h.has all in
      let quiet : Calm s mid = calm_part _ _ _ _ (le_refl _) (laws.got_count s mid k returned got) (ends_count (IsHeldOrEmpty st s) d.call (Fault d) o mid t r ends) calm in
      (greatest, includes, is, (says h.bytes greatest e includes (answer returned mid got quiet) h.is_text is).0)
    where
      answer : (a : Returned) (mid : S) → st.got s k a mid → Calm s mid → a ≡ Ok (Some h.bytes)
      answer (Err x) mid got quiet = absurd (quiet (laws.got_error s mid k x got))
      answer (Ok None) mid got quiet = absurd (laws.got_none s mid k got quiet h.bytes h.only.0)
      answer (Ok (Some b)) mid got quiet = ap (λ v. Ok (Some v)) (h.only.1 b (laws.got_some s mid k b got))

  -- ---- calls between

  run_count : (done : List (Done V)) (call_results : List CallResult) (s t : S) → RunOnHeld w st s done call_results t → st.failures s ≤ st.failures t
  run_count [] [] s t run = rw run (le_refl _)
  run_count [] (r ∷ rs) s t run = absurd run
  run_count (d ∷ ds) [] s t run = absurd run
  run_count (d ∷ ds) (r ∷ rs) s t (mid, step, rest) = le_trans (step_count (IsHeldEntry st s mid) d.call (Fault d) s r mid step) (run_count ds rs mid t rest)

  -- one of these calls displaced the result
  abbrev IsDisplaced : List (Done V) → List CallResult → Bytes → Bytes → Type 0
  IsDisplaced done call_results k key = (x : Done V) × (q : CallResult) × (f : Entry) × Contains done x × Contains call_results q × Displaces w x.call q k f key

  stays_in_run : (s t : S) (done : List (Done V)) (call_results : List CallResult) (k : Bytes) (e : Entry) (key : Bytes) (list : List Include) → HoldsResult st s k e key list → Calm s t
      → RunOnHeld w st s done call_results t → ((f : Entry) × HoldsResult st t k f key list) ⊎ IsDisplaced done call_results k key
  stays_in_run s t [] [] k e key list h calm run = inl (e, subst (λ v. HoldsResult st v k e key list) (sym run) h)
  stays_in_run s t [] (r ∷ rs) k e key list h calm run = absurd run
  stays_in_run s t (d ∷ ds) [] k e key list h calm run = absurd run
  stays_in_run s t (d ∷ ds) (r ∷ rs) k e key list h calm (mid, step, rest) =
      let up = step_count (IsHeldEntry st s mid) d.call (Fault d) s r mid step in
      let on = run_count ds rs mid t rest in
      elim (result_stays d s mid r k e key list h (calm_part _ _ _ _ (le_refl _) up on calm) step) [
        | inl still ↦ elim (stays_in_run mid t ds rs k still.0 key list still.1 (calm_part _ _ _ _ up on (le_refl _) calm) rest) [
          | inl held ↦ inl held
          | inr gone ↦ (let (x, q, f, at, in_results, displaced) = gone in inr (x, q, f, later_in d x ds at, later_in r q rs in_results, displaced))
        ]
        | inr gone ↦ inr (d, r, e, first_in d ds, first_in r rs, gone)
      ]

  pub stored_is_hit_each : StoredIsHitEach w st
  stored_is_hit_each c d between call_results s after before t k text key r can first run can_hit same last calm =
      let up = step_count (IsHeldOrEmpty st s) c.call (Fault c) s (Keyed key true) after first in
      let mid = run_count between call_results after before run in
      let on = step_count (IsHeldOrEmpty st before) d.call (Fault d) before r t last in
      let (one, own, e, held) = new_is_held c s after k text key can (calm_part _ _ _ _ (le_refl _) up (le_trans mid on) calm) first in
      let same_text : text ≡ own.text = same_Some text own.text (sym can.is_text ∙ own.is_text) in
      let all : list_all (matching w d.call) own.includes ≡ true =
      all_pass (matching w d.call) own.includes (record_matches w st laws c.call d.call own.text own.includes own.recorded (subst (SameRecords w c.call d.call) same_text same)) in
      elim (stays_in_run after before between call_results k e key own.includes held (calm_part _ _ _ _ up mid on calm) run) [
        | inl still ↦
            (let (greatest, includes, is, hits) = result_is_returned d before t r k still.0 key own.includes still.1 all can_hit (calm_part _ _ _ _ (le_trans up mid) on (le_refl _) calm) last in
            inl (greatest, hits))
        | inr gone ↦ inr gone
      ]
