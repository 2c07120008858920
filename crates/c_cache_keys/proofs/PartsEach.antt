-- A hit over a snapshot, in an entry of several results, is a hit over all files.
use Rattle.std.proofs.Common.{◌≡◌, ◌∷◌, ◌++◌, [], List, Bool, false, true, None, Option, Some, Ok, inl, refl, sym, ap, ◌∙◌, subst}
use Rattle.std.specs.Prelude.{Contains}
use Rattle.std.specs.FinMap.{entries}
use Rattle.std.specs.FinMap.Entries.{find}
use Rattle.std.specs.List.{list_all}
use Rattle.std.proofs.lemmas.Option.{same_Some}
use Rattle.cck_entry.specs.Entry.{Entry, EntryText}
use Rattle.cck_entry.specs.Statuses.{Statuses}
use Rattle.cck_files.specs.FileMap.{FileMap}
use Rattle.cck_include.specs.Include.{Include}
use Rattle.cck_path.specs.Bytes.{Bytes}
use Rattle.cck_path.specs.TextOrder.{text_cmp}
use Rattle.cck_util.specs.MapStore.{IsGot, State, map_store}
use Rattle.cck_hasher.specs.Call.{Call, CallResult, Done, Fault, Keyed}
use Rattle.cck_hasher.specs.Keys.{plain_key, preprocessor_key_of}
use Rattle.c_cache_keys.specs.Premises.{Premises}
use Rattle.cck_hasher.specs.Step.{Ends, Gives, matched}
use Rattle.cck_hasher.specs.World.{HasSize, World}
use Rattle.c_cache_keys.proofs.Finds.{found_has, found_some}
use Rattle.c_cache_keys.proofs.SnapshotHits.{made_fresh}
use Rattle.c_cache_keys.proofs.KeepingLemmas.{own_is_plain, same_entry}
use Rattle.c_cache_keys.proofs.Outcomes.{given_hit}
use Rattle.c_cache_keys.proofs.Pairs.{find_one}
use Rattle.c_cache_keys.proofs.Parts.{key_here, list_here, opened_here}
use Rattle.c_cache_keys.proofs.StatusLaws.{same_test, told_each}
use Rattle.c_cache_keys.proofs.Stores.{find_key}
use Rattle.c_cache_keys.specs.AdditionLaws.{HitOverAllEach}
use Rattle.c_cache_keys.specs.Keeping.{EachOwn}
use Rattle.c_cache_keys.specs.Snapshot.{IsSnapshot, one_pair, over}
use Rattle.c_cache_keys.specs.Statuses.{AreStatuses, AsksWith, HonestTimes, matching_with}

module _ {V : Type 0} (w : World V) (size : HasSize w.hash) (earlier later : List (Call V)) (d : Done V) (statuses : Statuses) (whole : FileMap) (snapshot : IsSnapshot w d.call whole)
    (right : AreStatuses whole statuses) (honest : HonestTimes w (earlier ++ over whole d.call ∷ later)) (premises : Premises w (earlier ++ over whole d.call ∷ later))
    (k bytes : Bytes) (e : Entry) (text : EntryText e bytes) (each : EachOwn w earlier k e) where
  abbrev c : Call V
  c = over whole d.call

  abbrev with : Include → Bool
  with = matching_with w statuses c

  -- a result of the entry that is accepted over all files has the plain key
  plain_of : preprocessor_key_of w c ≡ Some k → (key : Bytes) (list : List Include) → Contains (entries e) (key, list) → list_all with list ≡ true → plain_key w c ≡ Some key
  plain_of is_key key list at all =
      own_is_plain w size earlier later c premises k e each is_key key list at
      (sym (same_test w size c (Fault d) statuses right e (told_each w size earlier later c honest k e each) (key, list) at) ∙ all)

  -- so what is found over all files has the key that was found over the snapshot
  gives_all : preprocessor_key_of w c ≡ Some k → (key : Bytes) (list : List Include) → Contains (entries e) (key, list) → list_all with list ≡ true
      → Gives with (Fault d) (Ok (Some bytes)) (Some (Keyed key false))
  gives_all is_key key list at all =
      let (greatest, includes, is) = found_some with (entries e) key list at all in
      let (has, passes) = found_has with (entries e) (greatest, includes) is in
      let same : greatest ≡ key = same_Some greatest key (sym (plain_of is_key greatest includes has passes) ∙ plain_of is_key key list at all) in
      subst (λ v. Gives with (Fault d) (Ok (Some bytes)) (Some (Keyed v false))) same (matched bytes greatest e includes refl text has passes (inl is))

  module _ (key : Bytes) (t : State) (asks : AsksWith w map_store statuses d.call (Fault d) (one_pair k bytes) (Keyed key false) t) where
    hits_by : (o : Option CallResult) → Gives (matching_with w statuses d.call) (Fault d) asks.returned o → Ends w map_store d.call (Fault d) o asks.mid (Keyed key false) t
        → AsksWith w map_store statuses c (Fault d) (one_pair k bytes) (Keyed key false) t × (plain_key w c ≡ Some key)
    hits_by None given ends = absurd (made_fresh w map_store d.call (Fault d) asks.mid t key ends)
    hits_by (Some x) given ends =
        let hit = given_hit (matching_with w statuses d.call) (Fault d) asks.returned key (Some x) (ap (λ v. Some v) (sym ends.0)) given in
        let held : find text_cmp asks.key ((k, bytes) ∷ []) ≡ Some hit.bytes = sym (subst (λ v. IsGot (one_pair k bytes) asks.key v asks.mid) hit.is asks.got).1 in
        let same : hit.bytes ≡ bytes = find_one k asks.key bytes hit.bytes held in
        let same_e : hit.e ≡ e = same_entry hit.e e bytes (subst (EntryText hit.e) same hit.text) text in
        let has : Contains (entries e) (key, hit.list) = subst (λ f. Contains (entries f) (key, hit.list)) same_e hit.has in
        let all = list_here w d.call whole snapshot statuses hit.list hit.all in
        let here : preprocessor_key_of w c ≡ Some asks.key = key_here w d.call whole snapshot asks.key asks.is_key in
        let is_key : preprocessor_key_of w c ≡ Some k = here ∙ ap (λ v. Some v) (find_key k asks.key bytes hit.bytes held) in (
          record {
            opened = opened_here w d.call whole snapshot asks.opened;
            key = asks.key;
            is_key = here;
            control = asks.control;
            returned = asks.returned;
            mid = asks.mid;
            got = asks.got;
            outcome = Some (Keyed key false);
            gives = subst (λ v. Gives with (Fault d) v (Some (Keyed key false))) (sym (hit.is ∙ ap (λ b. Ok (Some b)) same)) (gives_all is_key key hit.list has all);
            ends = (refl, ends.1);
          },
          plain_of is_key key hit.list has all,
        )

module _ {V : Type 0} (w : World V) (size : HasSize w.hash) where
  pub hit_over_all_each : HitOverAllEach w
  hit_over_all_each earlier later d statuses whole k bytes key e t snapshot right honest premises text each asks =
      hits_by w size earlier later d statuses whole snapshot right honest premises k bytes e text each key t asks asks.outcome asks.gives asks.ends
