-- The laws of runs.
use Rattle.std.proofs.Common.{◌≡◌, ◌⊎◌, inl, inr, Bool, true, false, List, [], ◌∷◌, ◌++◌, refl, sym, ap, ◌∙◌, subst, append_assoc, Option, None, Some}
use Rattle.std.specs.Prelude.{Contains}
use Rattle.std.specs.FinMap.{entries}
use Rattle.std.specs.List.{AllZip, list_all}
use Rattle.std.proofs.lemmas.List.Elements.{Contains-append_left, Contains-append_right}
use Rattle.cck_path.specs.Bytes.{Bytes}
use Rattle.cck_entry.specs.Entry.{Entry, EntryText}
use Rattle.cck_include.specs.Include.{Include}
use Rattle.cck_util.specs.Store.{Returned, Store, StoreLaws}
use Rattle.cck_hasher.proofs.Elements.{first_in}
use Rattle.c_cache_keys.proofs.HitPlain.{hit_plain}
use Rattle.c_cache_keys.proofs.Stored.{none_computed, run_returns_stored}
use Rattle.cck_hasher.specs.Call.{CallResult, Call, Damaged, Done, Fault, Keyed, ReturnsError, Why, calls_of}
use Rattle.cck_hasher.specs.Keys.{plain_key}
use Rattle.c_cache_keys.specs.Laws.{FreshIsPlain, Headline, HitIsPlain, IsTransparent, KeepsOldOrOwn, NothingDamaged, Runs, RunsHeadline, RunsJoin, StaysSound, joined_lists}
use Rattle.c_cache_keys.specs.Premises.{IsBefore, Premises}
use Rattle.cck_hasher.specs.Step.{Ends, Gives, IsEmpty, Makes, OwnPair, Run, Sound, Step, StopsMaking, StopsOpening, Stores, asked, damaged, extra_fault, faulted, gives, input_fault, lacked, made, making_lacks, marker, matched, matching, no_bytes, no_extra, no_input, no_key, no_text, no_used_input, none_recorded, nothing, opening_lacks, puts, refused, stopped, stops, store_failed, store_lacked, text_fault, unmatched, used_input_fault}
use Rattle.cck_hasher.specs.World.{HasSize, World}

module _ {V S : Type 0} (w : World V) (st : Store S) where
  pub run_joined : (s mid t : S) (first second : List (Done V)) (before after : List CallResult) → Run w st s first before mid → Run w st mid second after t → Run w st s (first ++ second) (before ++ after) t
  run_joined s mid t [] second [] after p q = subst (λ v. Run w st v second after t) p q
  run_joined s mid t [] second (r ∷ before) after p q = absurd p
  run_joined s mid t (c ∷ first) second [] after p q = absurd p
  run_joined s mid t (c ∷ first) second (r ∷ before) after p q = (p.0, p.1, run_joined p.0 mid t first second before after p.2 q)

  pub run_parted : (s t : S) (first second : List (Done V)) (call_results : List CallResult) → Run w st s (first ++ second) call_results t
      → (mid : S) × (before : List CallResult) × (after : List CallResult) × (call_results ≡ before ++ after) × Run w st s first before mid × Run w st mid second after t
  run_parted s t [] second call_results p = (s, [], call_results, refl, refl, p)
  run_parted s t (c ∷ first) second [] p = absurd p
  run_parted s t (c ∷ first) second (r ∷ call_results) p =
      let (mid, before, after, is, front, back) = run_parted p.0 t first second call_results p.2 in
      (mid, r ∷ before, after, ap (λ rs. r ∷ rs) is, (p.0, p.1, front), back)

  pub runs_join : RunsJoin w st
  runs_join s t first second call_results = (
    run_parted s t first second call_results,
    λ parts. let (mid, before, after, is, front, back) = parts in subst (λ rs. Run w st s (first ++ second) rs t) (sym is) (run_joined s mid t first second before after front back),
  )

error_key : {why : Why} {key : Bytes} → Some (ReturnsError why) ≡ Some (Keyed key false) → ⊥
error_key e = cc

none_key : {key : Bytes} → None ≡ Some (Keyed key false) → ⊥
none_key e = cc

one_key : {key other : Bytes} → Some (Keyed key false) ≡ Some (Keyed other false) → key ≡ other
one_key e = cc

module _ {V S : Type 0} (w : World V) (st : Store S) (size : HasSize w.hash) (laws : StoreLaws st) where
  -- what is held after a step was held before it, or is the own pair of a call that returned a computed key
  abbrev pub IsKept : Call V → CallResult → S → S → Type 0
  IsKept c r s t = (k b : Bytes) → st.held t k b → st.held s k b ⊎ ((key : Bytes) × (r ≡ Keyed key true) × OwnPair w c key k b)

  same_kept : (c : Call V) (r : CallResult) (s t : S) → t ≡ s → IsKept c r s t
  same_kept c r s t is k b h = inl (subst (λ v. st.held v k b) is h)

  stores_kept : (c : Call V) (F : Type 0) (key : Bytes) (r : CallResult) (s t : S) → r ≡ Keyed key true → Stores w st c F key s t → IsKept c r s t
  stores_kept c F key r s t fresh (puts k' bytes own stored put) = λ k b h.
      elim (laws.put_old s t k' bytes stored put k b h) [
        | inl old ↦ inl old
        | inr is ↦ inr (key, fresh, subst (λ v. OwnPair w c key v b) (sym is.0) (subst (λ v. OwnPair w c key k' v) (sym is.1) own))
      ]
  stores_kept c F key r s t fresh (no_key none same) = same_kept c r s t same
  stores_kept c F key r s t fresh (refused text prints walk same) = same_kept c r s t same
  stores_kept c F key r s t fresh (none_recorded text prints walk none same) = same_kept c r s t same
  stores_kept c F key r s t fresh (faulted fault same) = same_kept c r s t same

  makes_kept : (c : Call V) (F : Type 0) (s t : S) (r : CallResult) → Makes w st c F s r t → IsKept c r s t
  makes_kept c F s t r (stops why cause is same) = same_kept c r s t same
  makes_kept c F s t r (gives key is-plain is stores) = stores_kept c F key r s t is stores

  ends_kept : (c : Call V) (F : Type 0) (o : Option CallResult) (s t : S) (r : CallResult) → Ends w st c F o s r t → IsKept c r s t
  ends_kept c F (Some x) s t r e = same_kept c r s t e.1
  ends_kept c F None s t r e = makes_kept c F s t r e

  pub step_kept : (c : Call V) (F : Type 0) (s t : S) (r : CallResult) → Step w st c F s r t → IsKept c r s t
  step_kept c F s t r (stopped why cause is same) = same_kept c r s t same
  step_kept c F s t r (made opened not makes) = makes_kept c F s t r makes
  step_kept c F s t r (asked opened k is-k control a mid got o given ends) =
      λ q b h. elim (ends_kept c F o mid t r ends q b h) [
        | inl old ↦ inl (laws.got_old s mid k a got q b old)
        | inr own ↦ inr own
      ]

  first_any : (earlier : List (Call V)) (c : Call V) (F : Type 0) (s t : S) (r : CallResult) → Sound w st s earlier → Step w st c F s r t → Sound w st t (earlier ++ c ∷ [])
  first_any earlier c F s t r sound step k b h =
      elim (step_kept c F s t r step k b h) [
        | inl old ↦ (let (c', at, key, own) = sound k b old in (c', Contains-append_left earlier (c ∷ []) c' at, key, own))
        | inr own ↦ (c, Contains-append_right earlier (c ∷ []) c (first_in c []), own.0, own.2)
      ]

  pub stays_sound : StaysSound w st
  stays_sound earlier d s t r sound step = first_any earlier d.call (Fault d) s t r sound step

  makes_plain : (c : Call V) (F : Type 0) (s t : S) (key : Bytes) (fresh : Bool) → Makes w st c F s (Keyed key fresh) t → (plain_key w c ≡ Some key) × (fresh ≡ true)
  makes_plain c F s t key fresh (stops why cause is same) = cc
  makes_plain c F s t key fresh (gives key' is-plain is stores) = let same : key ≡ key' = cc in (is-plain ∙ ap Some (sym same), cc)

  ends_plain : (c : Call V) (F : Type 0) (a : Returned) (o : Option CallResult) (s t : S) (key : Bytes) → Gives (matching w c) F a o → Ends w st c F o s (Keyed key true) t → plain_key w c ≡ Some key
  ends_plain c F a (Some x) s t key given e = absurd (none_computed (matching w c) F a key (Some x) (ap (λ v. Some v) (sym e.0)) given)
  ends_plain c F a None s t key given e = (makes_plain c F s t key true e).0

  fresh_any : (c : Call V) (F : Type 0) (s t : S) (key : Bytes) → Step w st c F s (Keyed key true) t → plain_key w c ≡ Some key
  fresh_any c F s t key (stopped why cause is same) = cc
  fresh_any c F s t key (made opened not makes) = (makes_plain c F s t key true makes).0
  fresh_any c F s t key (asked opened k is-k control a mid got o given ends) = ends_plain c F a o mid t key given ends

  pub fresh_is_plain : FreshIsPlain w st
  fresh_is_plain d s t key step = fresh_any d.call (Fault d) s t key step

  -- what a hit follows from: bytes that are held, and a result of their entry whose included files are all unchanged
  abbrev Known : Call V → S → Bytes → Bytes → Type 0
  Known c s k key = (b : Bytes) × st.held s k b × (e : Entry) × EntryText e b × (list : List Include) × Contains (entries e) (key, list) × (list_all (matching w c) list ≡ true)

  hit_known : (c : Call V) (F : Type 0) (k key : Bytes) (s mid : S) (a : Returned) (o : Option CallResult) → o ≡ Some (Keyed key false) → st.got s k a mid → Gives (matching w c) F a o → Known c s k key
  hit_known c F k key s mid a o same got (store_failed is) = absurd (error_key same)
  hit_known c F k key s mid a o same got (store_lacked is) = absurd (error_key same)
  hit_known c F k key s mid a o same got (nothing is) = absurd (none_key same)
  hit_known c F k key s mid a o same got (no_bytes is) = absurd (none_key same)
  hit_known c F k key s mid a o same got (matched bytes other e list is text present all which) =
      subst (Known c s k) (one_key same) (bytes, laws.got_some s mid k bytes (subst (λ v. st.got s k v mid) is got), e, text, list, present, all)
  hit_known c F k key s mid a o same got (unmatched bytes e is text which) = absurd (none_key same)
  hit_known c F k key s mid a o same got (damaged bytes is some none) = absurd (error_key same)
  hit_known c F k key s mid a o same got (lacked bytes is) = absurd (error_key same)

  second_any : (earlier later : List (Call V)) (c : Call V) (F : Type 0) (s t : S) (key : Bytes) → Premises w (earlier ++ c ∷ later) → Sound w st s earlier → Step w st c F s (Keyed key false) t → plain_key w c ≡ Some key
  second_any earlier later c F s t key premises sound (stopped why cause is same) = cc
  second_any earlier later c F s t key premises sound (made opened not makes) = (makes_plain c F s t key false makes).0
  second_any earlier later c F s t key premises sound (asked opened k is-k control a mid got o given ends) = go o given ends
    where
      before : (c' : Call V) → Contains earlier c' → IsBefore w (earlier ++ c ∷ later) c' c
      before c' at = (earlier, c ∷ later, refl, at, Contains-append_left (c ∷ []) later c (first_in c []))

      go : (o : Option CallResult) → Gives (matching w c) F a o → Ends w st c F o mid (Keyed key false) t → plain_key w c ≡ Some key
      go (Some x) given ends =
          let (b, held, e, text, list, present, all_match) = hit_known c F k key s mid a (Some x) (ap (λ v. Some v) (sym ends.0)) got given in
          let (c', at, own-key, own) = sound k b held in
          hit_plain w size (earlier ++ c ∷ later) premises c' c (before c' at) own-key k b own is-k e key list text present all_match
      go None given ends = (makes_plain c F mid t key false ends).0

  pub hit_is_plain : HitIsPlain w st
  hit_is_plain earlier later d s t key premises sound step = second_any earlier later d.call (Fault d) s t key premises sound step

  -- no error of a call without the store is that what the store returned is no entry
  not_opening : (c : Call V) (F : Type 0) (why : Why) → StopsOpening w c F why → why ≡ Damaged → ⊥
  not_opening c F why opening_lacks e = cc
  not_opening c F why (no_extra none) e = cc
  not_opening c F why (extra_fault fault) e = cc
  not_opening c F why (no_used_input extra used none) e = cc
  not_opening c F why (used_input_fault used fault) e = cc

  not_making : (c : Call V) (F : Type 0) (why : Why) → StopsMaking w c F why → why ≡ Damaged → ⊥
  not_making c F why making_lacks e = cc
  not_making c F why (no_text needs none) e = cc
  not_making c F why (text_fault needs fault) e = cc
  not_making c F why (no_input needs none) e = cc
  not_making c F why (input_fault needs fault) e = cc
  not_making c F why (marker key text prints errs) e = cc

  not_made : (c : Call V) (F : Type 0) (s t : S) → Makes w st c F s (ReturnsError Damaged) t → ⊥
  not_made c F s t (stops why cause is same) = not_making c F why cause (cc)
  not_made c F s t (gives key is-plain is stores) = cc

  entry_any : (earlier : List (Call V)) (c : Call V) (F : Type 0) (s t : S) → Sound w st s earlier → Step w st c F s (ReturnsError Damaged) t → ⊥
  entry_any earlier c F s t sound (stopped why cause is same) = not_opening c F why cause (cc)
  entry_any earlier c F s t sound (made opened not makes) = not_made c F s t makes
  entry_any earlier c F s t sound (asked opened k is-k control a mid got o given ends) = go o given ends
    where
      at_bytes : (o : Option CallResult) → o ≡ Some (ReturnsError Damaged) → Gives (matching w c) F a o → ⊥
      at_bytes o e (store_failed is) = cc
      at_bytes o e (store_lacked is) = cc
      at_bytes o e (nothing is) = cc
      at_bytes o e (no_bytes is) = cc
      at_bytes o e (matched bytes key f list is text present all which) = cc
      at_bytes o e (unmatched bytes f is text which) = cc
      at_bytes o e (damaged bytes is some none) = let (c', at, key, own) = sound k bytes (laws.got_some s mid k bytes (subst (λ v. st.got s k v mid) is got)) in none _ own.is_entry
      at_bytes o e (lacked bytes is) = cc

      go : (o : Option CallResult) → Gives (matching w c) F a o → Ends w st c F o mid (ReturnsError Damaged) t → ⊥
      go (Some x) given ends = at_bytes (Some x) (ap (λ v. Some v) (sym ends.0)) given
      go None given ends = not_made c F mid t ends

  pub nothing_damaged : NothingDamaged w st
  nothing_damaged earlier d s t sound step = entry_any earlier d.call (Fault d) s t sound step

  -- one step of a run on a sound store
  step_transparent : (earlier later : List (Call V)) (d : Done V) (s t : S) (r : CallResult) → Premises w (earlier ++ d.call ∷ later) → Sound w st s earlier → Step w st d.call (Fault d) s r t → IsTransparent w d.call r
  step_transparent earlier later d s t (Keyed key true) premises sound step = fresh_is_plain d s t key step
  step_transparent earlier later d s t (Keyed key false) premises sound step = hit_is_plain earlier later d s t key premises sound step
  step_transparent earlier later d s t (ReturnsError why) premises sound step = λ is. nothing_damaged earlier d s t sound (subst (λ v. Step w st d.call (Fault d) s (ReturnsError v) t) is step)

  from_sound : (done : List (Done V)) (earlier : List (Call V)) (call_results : List CallResult) (s t : S) → Sound w st s earlier → Run w st s done call_results t → Premises w (earlier ++ calls_of done)
      → AllZip (IsTransparent w) (calls_of done) call_results
  from_sound [] earlier [] s t sound run premises = tt
  from_sound [] earlier (r ∷ call_results) s t sound run premises = absurd run
  from_sound (d ∷ done) earlier [] s t sound run premises = absurd run
  from_sound (d ∷ done) earlier (r ∷ call_results) s t sound run premises = (
    step_transparent earlier (calls_of done) d s run.0 r premises sound run.1,
    from_sound done (earlier ++ d.call ∷ []) call_results run.0 t (stays_sound earlier d s run.0 r sound run.1) run.2 (subst (Premises w) (sym (append_assoc earlier (d.call ∷ []) (calls_of done))) premises),
  )

  pub transparent : (s t : S) (done : List (Done V)) (call_results : List CallResult) → IsEmpty w st s → Run w st s done call_results t → Premises w (calls_of done) → AllZip (IsTransparent w) (calls_of done) call_results
  transparent s t done call_results none run premises = from_sound done [] call_results s t (λ k b h. absurd (none k b h)) run premises

  pub headline : Headline w st
  headline s t done call_results run = (λ none premises. transparent s t done call_results none run premises, run_returns_stored w st s t done call_results run)

  pub keeps_old_or_own : KeepsOldOrOwn w st
  keeps_old_or_own d s t r step = step_kept d.call (Fault d) s t r step

  -- runs in order are one run over all their calls
  joined_run : (s t : S) (runs : List (List (Done V))) (call_results : List (List CallResult)) → Runs w st s runs call_results t → Run w st s (joined_lists runs) (joined_lists call_results) t
  joined_run s t [] [] p = p
  joined_run s t [] (a ∷ call_results) p = absurd p
  joined_run s t (r ∷ runs) [] p = absurd p
  joined_run s t (r ∷ runs) (a ∷ call_results) p = run_joined w st s p.0 t r (joined_lists runs) a (joined_lists call_results) p.1 (joined_run p.0 t runs call_results p.2)

  pub runs_headline : RunsHeadline w st
  runs_headline s t runs call_results p = headline s t (joined_lists runs) (joined_lists call_results) (joined_run s t runs call_results p)
