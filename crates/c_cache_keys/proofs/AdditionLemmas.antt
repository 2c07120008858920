-- The laws of recordings whose result is added to a held entry.
use Rattle.std.proofs.Common.{◌≡◌, ℕ, inl, inr, false, true, [], ◌∷◌, refl, sym, ◌∙◌, subst, Option, Some, None}
use Rattle.std.specs.FinMap.{empty}
use Rattle.cck_entry.specs.Entry.{Entry, EntryText, added}
use Rattle.cck_path.specs.Bytes.{Bytes}
use Rattle.cck_util.specs.MapStore.{empty_state, map_store}
use Rattle.cck_util.specs.Store.{Store, StoreLaws, Stored}
use Rattle.cck_hasher.proofs.Includes.{added_alone}
use Rattle.cck_hasher.specs.Call.{CallResult, Done, Fault, Keyed}
use Rattle.cck_hasher.specs.Step.{Ends, Gives, OwnPair, Step}
use Rattle.cck_hasher.specs.World.{World}
use Rattle.cck_hasher.specs.declared.call.CacheControl.TheVariants.{ForceRecache}
use Rattle.c_cache_keys.proofs.SnapshotHits.{made_fresh}
use Rattle.c_cache_keys.proofs.KeepingLemmas.{each_empty, each_later, each_same, step_wide}
use Rattle.c_cache_keys.proofs.Stores.{recorded_own, recording_on_any_store}
use Rattle.c_cache_keys.specs.AdditionLaws.{AdditionOnAnyStore, AdditionToEarlier, HeldIsKeeping, HitIsKeeping, ReturnedIsEarlier}
use Rattle.c_cache_keys.specs.Additions.{Holds, IsAddition, IsNoEntry, adds, none_held, not_one}
use Rattle.c_cache_keys.specs.Keeping.{AddsTo, EachOwn, IsHeldEntry, IsHeldOrEmpty, StepOnto, adding, no_entry, nothing}
use Rattle.c_cache_keys.specs.Snapshot.{one_pair}
use Rattle.c_cache_keys.specs.Statuses.{AsksWith, matching_with}

no_text : (x : ℕ) (bytes : Bytes) → [] ≡ x ∷ bytes → ⊥
no_text x bytes e = cc

-- no bytes are no entry
pub no_bytes_no_entry : (bytes : Bytes) → bytes ≡ [] → IsNoEntry bytes
no_bytes_no_entry bytes is e text = no_text _ _ (sym is ∙ text.text)

module _ {V S : Type 0} (w : World V) (st : Store S) where
  module _ (base : Bytes → Entry → Type 0) (d : Done V) (k one held bytes key : Bytes) (from_store : Stored) (s u : S)
      (of_entry : (e : Entry) → EntryText e held → base k e) (of_none : IsNoEntry held → base k empty) where
    -- the put of the bytes adds the result of the pair
    adds_to : OwnPair w d.call key k one → IsAddition held one bytes → st.put s k bytes from_store u → AddsTo base st s k one from_store u
    adds_to own (adds e key' includes text alone sum) put =
        record { key = key'; includes = includes; is_one = alone; onto = e; is_base = of_entry e text; bytes = bytes; is_text = sum; put = put }
    adds_to own (none_held none same) put = record {
      key = key;
      includes = own.includes;
      is_one = own.is_entry;
      onto = empty;
      is_base = of_none none;
      bytes = bytes;
      is_text = subst (EntryText (added empty key own.includes)) (sym same) (subst (λ e. EntryText e one) (sym (added_alone key own.includes)) own.is_entry);
      put = put;
    }
    adds_to own (not_one none same) put = absurd (none (key, own.includes, own.is_entry))

    addition_onto : d.call.control ≡ ForceRecache → Step w map_store d.call (Fault d) empty_state (Keyed key true) (one_pair k one) → IsAddition held one bytes → st.put s k bytes from_store u
        → StepOnto w st base d.call (Fault d) s (Keyed key true) u
    addition_onto control step addition put =
        recording_on_any_store w (adding base st) d k one key from_store s u control step (adds_to (recorded_own w st d.call (Fault d) k one key control step) addition put)

  pub addition_on_any_store : AdditionOnAnyStore w st
  addition_on_any_store d k one held bytes key from_store s u control step holds addition put =
      addition_onto (IsHeldEntry st s u) d k one held bytes key from_store s u (of_entry holds) (of_none holds) control step addition put
    where
      of_entry : Holds st s k held → (e : Entry) → EntryText e held → IsHeldEntry st s u k e
      of_entry (inl at) e text = inl (held, at, text)
      of_entry (inr (is, none)) e text = absurd (no_bytes_no_entry held is e text)

      of_none : Holds st s k held → IsNoEntry held → IsHeldEntry st s u k empty
      of_none (inl at) none = inr (refl, no_entry held at none)
      of_none (inr (is, none)) other = inr (refl, nothing none)

  pub held_is_keeping : HeldIsKeeping w st
  held_is_keeping d s t r step = step_wide w st (IsHeldEntry st s t) (IsHeldOrEmpty st s) wider d.call (Fault d) s t r step
    where
      wider : (k : Bytes) (e : Entry) → IsHeldEntry st s t k e → IsHeldOrEmpty st s k e
      wider k e (inl held) = inr held
      wider k e (inr (is, none)) = inl is

  pub addition_to_earlier : AdditionToEarlier w st
  addition_to_earlier earlier d k one held bytes key from_store s u control step each addition put =
      addition_onto (EachOwn w earlier) d k one held bytes key from_store s u each (λ none. each_empty w earlier k empty refl) control step addition put

  pub hit_is_keeping : HitIsKeeping w st
  hit_is_keeping d statuses s t key asks = go asks.outcome asks.gives asks.ends
    where
      go : (o : Option CallResult) → Gives (matching_with w statuses d.call) (Fault d) asks.returned o → Ends w st d.call (Fault d) o asks.mid (Keyed key false) t
          → AsksWith w (adding (IsHeldOrEmpty st s) st) statuses d.call (Fault d) s (Keyed key false) t
      go (Some x) given ends = record {
        opened = asks.opened;
        key = asks.key;
        is_key = asks.is_key;
        control = asks.control;
        returned = asks.returned;
        mid = asks.mid;
        got = asks.got;
        outcome = Some x;
        gives = given;
        ends = ends;
      }
      go None given ends = absurd (made_fresh w st d.call (Fault d) asks.mid t key ends)

  pub returned_is_earlier : StoreLaws st → ReturnedIsEarlier w st
  returned_is_earlier laws earlier more s t k bytes e sound got text =
      let (f, other, each) = sound k bytes (laws.got_some s t k bytes got) in
      each_later w earlier more k e (each_same w earlier k bytes f e other text each)
