-- The laws of calls that add their results to held entries.
use Rattle.std.proofs.Common.{◌≡◌, inl, inr, true, false, List, [], ◌∷◌, ◌++◌, refl, sym, ap, ◌∙◌, subst, append_assoc, Option, Some, None}
use Rattle.std.specs.Prelude.{Contains}
use Rattle.std.specs.FinMap.{empty, entries, insert}
use Rattle.std.specs.List.{AllZip, list_all}
use Rattle.std.proofs.lemmas.List.Elements.{Contains-append_left, Contains-append_right}
use Rattle.std.proofs.lemmas.Option.{same_Some}
use Rattle.cck_entry.proofs.LawLemmas.{one_text_one_entry}
use Rattle.cck_entry.specs.Entry.{Entry, EntryText, added}
use Rattle.cck_entry.specs.Results.{KeyResult}
use Rattle.cck_include.specs.Include.{Include}
use Rattle.cck_path.specs.Bytes.{Bytes}
use Rattle.cck_path.specs.TextOrder.{text_cmp}
use Rattle.cck_util.specs.Store.{Returned, Store, StoreLaws, Stored}
use Rattle.cck_hasher.proofs.Elements.{first_in, only_one}
use Rattle.c_cache_keys.proofs.HitPlain.{hit_plain, only_result}
use Rattle.cck_hasher.proofs.Includes.{added_alone, entries-alone}
use Rattle.c_cache_keys.proofs.Stored.{same_key, stored_key_is_returned}
use Rattle.cck_hasher.specs.Call.{Call, CallResult, Damaged, Done, Fault, Keyed, ReturnsError, calls_of}
use Rattle.cck_hasher.specs.Keys.{plain_key, preprocessor_key_of}
use Rattle.c_cache_keys.specs.Laws.{IsTransparent}
use Rattle.c_cache_keys.specs.Premises.{Premises}
use Rattle.cck_hasher.specs.Step.{Ends, Makes, OwnPair, Step, Stores, asked, faulted, gives, made, matching, no_key, none_recorded, puts, refused, stopped, stops}
use Rattle.cck_hasher.specs.World.{HasSize, World}
use Rattle.c_cache_keys.proofs.AddedLemmas.{added_is_old_or_new, no_result}
use Rattle.c_cache_keys.proofs.Outcomes.{Comes, Puts, Reaches, computes, leaves, step_comes, step_damaged, step_hit, stores_puts}
use Rattle.c_cache_keys.specs.Keeping.{AddsTo, EachOwn, IsFirst, IsHeldOrEmpty, RunKeeping, SoundEach, StepOnto, adding}
use Rattle.c_cache_keys.specs.KeepingLaws.{AllReturnStoredKeeping, HeadlineKeeping, HeadlineOnEarlier, HitIsPlainEach, MatchIsPlain, MatchesAreOne, RunIsKeeping, SoundIsEach, StaysSoundEach, StaysSoundOnto, StepIsFirst}

-- ---- entries

-- the same bytes are of one entry
pub same_entry : (e f : Entry) (bytes : Bytes) → EntryText e bytes → EntryText f bytes → e ≡ f
same_entry e f bytes s t = (one_text_one_entry e f bytes bytes s t).0 refl

-- the one result of an entry is there
pub alone_in : (key : Bytes) (includes : List Include) → Contains (entries {R = text_cmp} (insert empty key includes)) (key, includes)
alone_in key includes = subst (λ es. Contains es (key, includes)) (sym (entries-alone key includes)) (first_in (key, includes) [])

-- texts of entries of one result tell the result
pub same_result : (key other : Bytes) (includes list : List Include) (one : Bytes) → EntryText (insert empty key includes) one → EntryText (insert empty other list) one → (key ≡ other) × (includes ≡ list)
same_result key other includes list one text own = only_result (insert empty key includes) other key list includes one text own (alone_in key includes)

module _ {V : Type 0} (w : World V) where
  pub each_empty : (calls : List (Call V)) (k : Bytes) (e : Entry) → e ≡ empty → EachOwn w calls k e
  each_empty calls k e is key includes at = absurd (no_result (key, includes) (subst (λ f. Contains (entries f) (key, includes)) is at))

  pub each_later : (earlier more : List (Call V)) (k : Bytes) (e : Entry) → EachOwn w earlier k e → EachOwn w (earlier ++ more) k e
  each_later earlier more k e each key includes at = let (one, text, c, has, own) = each key includes at in (one, text, c, Contains-append_left earlier more c has, own)

  -- an own pair is that of its entry's one result
  pub each_alone : (calls : List (Call V)) (c : Call V) (key k bytes : Bytes) (own : OwnPair w c key k bytes) → Contains calls c → EachOwn w calls k (insert empty key own.includes)
  each_alone calls c key k bytes own has q found at =
      let is = only_one (key, own.includes) (q, found) (subst (λ es. Contains es (q, found)) (entries-alone key own.includes) at) in
      let same_q : key ≡ q = ap (λ (r : KeyResult). r.0) is in (
        bytes,
        subst (λ v. EntryText (insert empty v found) bytes) same_q (subst (λ v. EntryText (insert empty key v) bytes) (ap (λ (r : KeyResult). r.1) is) own.is_entry),
        c,
        has,
        subst (λ v. OwnPair w c v k bytes) same_q own,
      )

  -- what holds of an entry holds of the one whose text these bytes are
  pub each_same : (calls : List (Call V)) (k bytes : Bytes) (e f : Entry) → EntryText e bytes → EntryText f bytes → EachOwn w calls k e → EachOwn w calls k f
  each_same calls k bytes e f s t each = subst (EachOwn w calls k) (same_entry e f bytes s t) each

  -- an entry of results of earlier calls to which the own result of a call was added
  each_added : {S : Type 0} (st : Store S) (base : Bytes → Entry → Type 0) (earlier : List (Call V)) (c : Call V) (key k one : Bytes) (s t : S) (stored : Stored)
      → ((q : Bytes) (e : Entry) → base q e → EachOwn w earlier q e) → OwnPair w c key k one → (a : AddsTo base st s k one stored t)
      → EachOwn w (earlier ++ c ∷ []) k (added a.onto a.key a.includes)
  each_added st base earlier c key k one s t stored sound own a q found at =
      elim (added_is_old_or_new a.onto a.key a.includes q found at) [
        | inl new ↦
            (let text : EntryText (insert empty q found) one = subst (λ v. EntryText (insert empty v found) one) (sym new.0) (subst (λ v. EntryText (insert empty a.key v) one) (sym new.1) a.is_one) in
            let same = same_result q key found own.includes one text own.is_entry in
            (one, text, c, Contains-append_right earlier (c ∷ []) c (first_in c []), subst (λ v. OwnPair w c v k one) (sym same.0) own))
        | inr old ↦ each_later earlier (c ∷ []) k a.onto (sound k a.onto a.is_base) q found old
      ]

  -- under the premises, a result of an entry of results of earlier calls whose included files are all unchanged has the plain key
  pub own_is_plain : (size : HasSize w.hash) (earlier later : List (Call V)) (c : Call V) → Premises w (earlier ++ c ∷ later) → (k : Bytes) (e : Entry) → EachOwn w earlier k e
      → preprocessor_key_of w c ≡ Some k → (key : Bytes) (list : List Include) → Contains (entries e) (key, list) → list_all (matching w c) list ≡ true → plain_key w c ≡ Some key
  own_is_plain size earlier later c premises k e each is_key key list at all =
      let (one, alone, c', has, own) = each key list at in
      hit_plain w size (earlier ++ c ∷ later) premises c' c (earlier, c ∷ later, refl, has, first_in c later) key k one own is_key
      (insert empty key list) key list alone (alone_in key list) all

-- ---- steps on two stores

module _ {V S : Type 0} (w : World V) (st more : Store S) (c : Call V) (F : Type 0)
    (gets : (s t : S) (k : Bytes) (returned : Returned) → st.got s k returned t → more.got s k returned t)
    (put_more : (s t : S) (key k one : Bytes) (stored : Stored) → OwnPair w c key k one → st.put s k one stored t → more.put s k one stored t) where
  stores_more : (key : Bytes) (s t : S) → Stores w st c F key s t → Stores w more c F key s t
  stores_more key s t (puts k one own stored put) = puts k one own stored (put_more s t key k one stored own put)
  stores_more key s t (no_key none same) = no_key none same
  stores_more key s t (refused text prints walk same) = refused text prints walk same
  stores_more key s t (none_recorded text prints walk none same) = none_recorded text prints walk none same
  stores_more key s t (faulted fault same) = faulted fault same

  makes_more : (s t : S) (r : CallResult) → Makes w st c F s r t → Makes w more c F s r t
  makes_more s t r (stops why cause is same) = stops why cause is same
  makes_more s t r (gives key plain is stores) = gives key plain is (stores_more key s t stores)

  ends_more : (o : Option CallResult) (s t : S) (r : CallResult) → Ends w st c F o s r t → Ends w more c F o s r t
  ends_more (Some x) s t r ends = ends
  ends_more None s t r ends = makes_more s t r ends

  -- a step on a store is one on each store that does as much
  pub step_more : (s t : S) (r : CallResult) → Step w st c F s r t → Step w more c F s r t
  step_more s t r (stopped why cause is same) = stopped why cause is same
  step_more s t r (made opened not makes) = made opened not (makes_more s t r makes)
  step_more s t r (asked opened k is-k control returned mid got o given ends) =
      asked opened k is-k control returned mid (gets s mid k returned got) o given (ends_more o mid t r ends)

module _ {V S : Type 0} (w : World V) (st : Store S) where
  add_first : (c : Call V) (s t : S) (key k one : Bytes) (stored : Stored) → OwnPair w c key k one → st.put s k one stored t → AddsTo IsFirst st s k one stored t
  add_first c s t key k one stored own put = record {
    key = key;
    includes = own.includes;
    is_one = own.is_entry;
    onto = empty;
    is_base = refl;
    bytes = one;
    is_text = subst (λ e. EntryText e one) (sym (added_alone key own.includes)) own.is_entry;
    put = put;
  }

  put_first : (s t : S) (k one : Bytes) (stored : Stored) → AddsTo IsFirst st s k one stored t → st.put s k one stored t
  put_first s t k one stored a =
      let text : EntryText (insert empty a.key a.includes) a.bytes =
      subst (λ e. EntryText e a.bytes) (ap (λ e. added e a.key a.includes) a.is_base ∙ added_alone a.key a.includes) a.is_text in
      subst (λ v. st.put s k v stored t) ((one_text_one_entry _ _ a.bytes one text a.is_one).1 refl) a.put

  first_of : (c : Call V) (F : Type 0) (s t : S) (r : CallResult) → Step w st c F s r t → StepOnto w st IsFirst c F s r t
  first_of c F s t r step = step_more w st (adding IsFirst st) c F (λ s t k returned got. got) (add_first c) s t r step

  pub step_is_first : StepIsFirst w st
  step_is_first d s t r = (
    first_of d.call (Fault d) s t r,
    step_more w (adding IsFirst st) st d.call (Fault d) (λ s t k returned got. got) (λ s t key k one stored own put. put_first s t k one stored put) s t r,
  )

  -- what may be added to one base may be added to a wider one
  pub step_wide : (base wide : Bytes → Entry → Type 0) → ((k : Bytes) (e : Entry) → base k e → wide k e) → (c : Call V) (F : Type 0) (s t : S) (r : CallResult)
      → StepOnto w st base c F s r t → StepOnto w st wide c F s r t
  step_wide base wide more c F s t r step =
      step_more w (adding base st) (adding wide st) c F (λ s t k returned got. got)
      (λ s t key k one stored own a. record {
        key = a.key;
        includes = a.includes;
        is_one = a.is_one;
        onto = a.onto;
        is_base = more k a.onto a.is_base;
        bytes = a.bytes;
        is_text = a.is_text;
        put = a.put;
      }) s t r step

  pub run_is_keeping : RunIsKeeping w st
  run_is_keeping s t [] [] run = run
  run_is_keeping s t [] (r ∷ rs) run = absurd run
  run_is_keeping s t (d ∷ ds) [] run = absurd run
  run_is_keeping s t (d ∷ ds) (r ∷ rs) (mid, step, rest) =
      (mid, step_wide IsFirst (IsHeldOrEmpty st s) (λ k e is. inl is) d.call (Fault d) s mid r (first_of d.call (Fault d) s mid r step), run_is_keeping mid t ds rs rest)

  pub run_returns_stored_keeping : (s t : S) (done : List (Done V)) (call_results : List CallResult) → RunKeeping w st s done call_results t → AllReturnStoredKeeping w st s done call_results t
  run_returns_stored_keeping s t [] [] run = run
  run_returns_stored_keeping s t [] (r ∷ rs) run = absurd run
  run_returns_stored_keeping s t (d ∷ ds) [] run = absurd run
  run_returns_stored_keeping s t (d ∷ ds) (r ∷ rs) (mid, step, rest) =
      (mid, (step, stored_key_is_returned w (adding (IsHeldOrEmpty st s) st) d s mid r step), run_returns_stored_keeping mid t ds rs rest)

-- ---- sound stores

module _ {V S : Type 0} (w : World V) (st : Store S) (size : HasSize w.hash) (laws : StoreLaws st) where
  -- what is held after the store was asked was held before
  reached_held : (c : Call V) (F : Type 0) (s mid : S) → Reaches w st c F s mid → (k b : Bytes) → st.held mid k b → st.held s k b
  reached_held c F s mid (inl is) k b held = subst (λ v. st.held v k b) is held
  reached_held c F s mid (inr (q, returned, got)) k b held = laws.got_old s mid q returned got k b held

  module _ (base : Bytes → Entry → Type 0) (earlier : List (Call V)) (c : Call V) (F : Type 0) (s : S) (each : (k : Bytes) (e : Entry) → base k e → EachOwn w earlier k e) (sound : SoundEach w st s earlier) where
    abbrev IsSound : S → Bytes → Bytes → Type 0
    IsSound t k b = st.held t k b → (e : Entry) × EntryText e b × EachOwn w (earlier ++ c ∷ []) k e

    old_sound : (k b : Bytes) → st.held s k b → (e : Entry) × EntryText e b × EachOwn w (earlier ++ c ∷ []) k e
    old_sound k b held = let (e, text, results) = sound k b held in (e, text, each_later w earlier (c ∷ []) k e results)

    puts_sound : (key : Bytes) (mid t : S) → Reaches w (adding base st) c F s mid → Puts w (adding base st) c F s key mid t → (k b : Bytes) → IsSound t k b
    puts_sound key mid t reached (inl same) k b held = old_sound k b (reached_held c F s mid reached k b (subst (λ v. st.held v k b) same held))
    puts_sound key mid t reached (inr (q, one, own, stored, a)) k b held =
        elim (laws.put_old mid t q a.bytes stored a.put k b held) [
          | inl old ↦ old_sound k b (reached_held c F s mid reached k b old)
          | inr new ↦ (
            added a.onto a.key a.includes,
            subst (EntryText (added a.onto a.key a.includes)) (sym new.1) a.is_text,
            subst (λ v. EachOwn w (earlier ++ c ∷ []) v (added a.onto a.key a.includes)) (sym new.0) (each_added w st base earlier c key q one mid t stored each own a),
          )
        ]

    pub sound_onto : (t : S) (r : CallResult) → StepOnto w st base c F s r t → SoundEach w st t (earlier ++ c ∷ [])
    sound_onto t r step = by (step_comes w (adding base st) c F s r t step)
      where
        by : Comes w (adding base st) c F s r t → SoundEach w st t (earlier ++ c ∷ [])
        by (leaves mid reached same fresh) k b held = old_sound k b (reached_held c F s mid reached k b (subst (λ v. st.held v k b) same held))
        by (computes key mid reached is plain stores) k b held = puts_sound key mid t reached (stores_puts w (adding base st) c F s key mid t stores) k b held

  pub stays_sound_onto : StaysSoundOnto w st
  stays_sound_onto earlier d s t r sound step = sound_onto (EachOwn w earlier) earlier d.call (Fault d) s (λ k e each. each) sound t r step

  base_sound : (earlier : List (Call V)) (s : S) → SoundEach w st s earlier → (k : Bytes) (e : Entry) → IsHeldOrEmpty st s k e → EachOwn w earlier k e
  base_sound earlier s sound k e (inl is) = each_empty w earlier k e is
  base_sound earlier s sound k e (inr (bytes, held, text)) = let (f, other, each) = sound k bytes held in each_same w earlier k bytes f e other text each

  pub stays_sound_each : StaysSoundEach w st
  stays_sound_each earlier d s t r sound step = sound_onto (IsHeldOrEmpty st s) earlier d.call (Fault d) s (base_sound earlier s sound) sound t r step

  pub sound_is_each : SoundIsEach w st
  sound_is_each s earlier sound k bytes held = let (c, at, key, own) = sound k bytes held in (insert empty key own.includes, own.is_entry, each_alone w earlier c key k bytes own at)

  -- ---- keys

  pub match_is_plain : MatchIsPlain w st
  match_is_plain earlier later c s e key list premises sound m =
      let (f, text, each) = sound m.k m.bytes m.held in
      own_is_plain w size earlier later c premises m.k e (each_same w earlier m.k m.bytes f e text m.is_text each) m.is_key key list m.has m.all_match

  pub matches_are_one : MatchesAreOne w st
  matches_are_one earlier later c s e f a b first second premises sound m n =
      same_Some a b (sym (match_is_plain earlier later c s e a first premises sound m) ∙ match_is_plain earlier later c s f b second premises sound n)

  module _ (base : Bytes → Entry → Type 0) (earlier later : List (Call V)) (d : Done V) (s : S) (premises : Premises w (earlier ++ d.call ∷ later)) (sound : SoundEach w st s earlier) where
    hit_onto : (t : S) (key : Bytes) → StepOnto w st base d.call (Fault d) s (Keyed key false) t → plain_key w d.call ≡ Some key
    hit_onto t key step =
        let at = step_hit w (adding base st) d.call (Fault d) s key t step in
        let hit = at.hit in
        match_is_plain earlier later d.call s hit.e key hit.list premises sound (record {
          k = at.k;
          is_key = at.is_key;
          bytes = hit.bytes;
          held = laws.got_some s at.mid at.k hit.bytes (subst (λ v. st.got s at.k v at.mid) hit.is at.got);
          is_text = hit.text;
          has = hit.has;
          all_match = hit.all;
        })

    new_onto : (t : S) (key : Bytes) → StepOnto w st base d.call (Fault d) s (Keyed key true) t → plain_key w d.call ≡ Some key
    new_onto t key step = by (step_comes w (adding base st) d.call (Fault d) s (Keyed key true) t step)
      where
        by : Comes w (adding base st) d.call (Fault d) s (Keyed key true) t → plain_key w d.call ≡ Some key
        by (leaves mid reached same fresh) = absurd (fresh key refl)
        by (computes other mid reached is plain stores) = plain ∙ ap Some (sym (same_key is))

    damaged_onto : (t : S) → StepOnto w st base d.call (Fault d) s (ReturnsError Damaged) t → ⊥
    damaged_onto t step =
        let (k, returned, mid, got, given) = step_damaged w size (adding base st) d s t step in
        let (bytes, is, none) = given in
        let (e, text, each) = sound k bytes (laws.got_some s mid k bytes (subst (λ v. st.got s k v mid) is got)) in
        none e text

    pub onto_transparent : (t : S) (r : CallResult) → StepOnto w st base d.call (Fault d) s r t → IsTransparent w d.call r
    onto_transparent t (Keyed key true) step = new_onto t key step
    onto_transparent t (Keyed key false) step = hit_onto t key step
    onto_transparent t (ReturnsError why) step = λ is. damaged_onto t (subst (λ v. StepOnto w st base d.call (Fault d) s (ReturnsError v) t) is step)

  pub hit_is_plain_each : HitIsPlainEach w st
  hit_is_plain_each earlier later d s t key premises sound step = hit_onto (IsHeldOrEmpty st s) earlier later d s premises sound t key step

  -- ---- runs

  rest_of : (earlier : List (Call V)) (d : Done V) (done : List (Done V)) → Premises w (earlier ++ calls_of (d ∷ done)) → Premises w ((earlier ++ d.call ∷ []) ++ calls_of done)
  rest_of earlier d done premises = subst (Premises w) (sym (append_assoc earlier (d.call ∷ []) (calls_of done))) premises

  -- from a sound store each result is transparent
  pub from_sound : (earlier : List (Call V)) (s t : S) (done : List (Done V)) (call_results : List CallResult) → SoundEach w st s earlier → RunKeeping w st s done call_results t
      → Premises w (earlier ++ calls_of done) → AllZip (IsTransparent w) (calls_of done) call_results
  from_sound earlier s t [] [] sound run premises = tt
  from_sound earlier s t [] (r ∷ rs) sound run premises = absurd run
  from_sound earlier s t (d ∷ ds) [] sound run premises = absurd run
  from_sound earlier s t (d ∷ ds) (r ∷ rs) sound (mid, step, rest) premises = (
    onto_transparent (IsHeldOrEmpty st s) earlier (calls_of ds) d s premises sound mid r step,
    from_sound (earlier ++ d.call ∷ []) mid t ds rs (stays_sound_each earlier d s mid r sound step) rest (rest_of earlier d ds premises),
  )

  pub headline_keeping : HeadlineKeeping w st
  headline_keeping s t done call_results run =
      (λ none premises. from_sound [] s t done call_results (λ k b held. absurd (none k b held)) run premises, run_returns_stored_keeping w st s t done call_results run)

  pub headline_on_earlier : HeadlineOnEarlier w st
  headline_on_earlier earlier s t [] [] sound run premises = tt
  headline_on_earlier earlier s t [] (r ∷ rs) sound run premises = absurd run
  headline_on_earlier earlier s t (d ∷ ds) [] sound run premises = absurd run
  headline_on_earlier earlier s t (d ∷ ds) (r ∷ rs) sound (mid, step, rest) premises = (
    onto_transparent (EachOwn w earlier) earlier (calls_of ds) d s premises sound mid r step,
    headline_on_earlier (earlier ++ d.call ∷ []) mid t ds rs (stays_sound_onto earlier d s mid r sound step) rest (rest_of earlier d ds premises),
  )
