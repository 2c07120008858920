-- A key that is found in an entry is one of a call that asks a store.
use Rattle.std.proofs.Common.{◌≡◌, ◌≢◌, Option, Some, None, Ok, Result, Err, IfOk, refl, sym, ap, ◌∙◌, false}
use Rattle.std.proofs.lemmas.Option.{none-some}
use Rattle.std.specs.FinMap.{entries}
use Rattle.std.specs.Result.{result_ok}
use Rattle.cck_entry.specs.Entry.{Entry, EntryText}
use Rattle.cck_entry.specs.Find.{IsLookup}
use Rattle.cck_entry.specs.Statuses.{Statuses}
use Rattle.cck_files.specs.FileMap.{FileMap}
use Rattle.cck_path.specs.Bytes.{Bytes, lists_of}
use Rattle.cck_util.specs.MapStore.{call_begun, map_store}
use Rattle.jiff.specs.Words.{plain_zone}
use Rattle.c_cache_keys.proofs.KeySame.{input_known, key_known, material_known}
use Rattle.cck_hasher.specs.Call.{Call, Keyed}
use Rattle.cck_hasher.specs.Keys.{input_file, preprocessor_key_of}
use Rattle.cck_hasher.specs.Step.{Opened, matched}
use Rattle.cck_hasher.specs.World.{World}
use Rattle.cck_hasher.specs.declared.call.CacheControl.TheVariants.{Default}
use Rattle.c_cache_keys.proofs.SnapshotHits.{key_same, opened}
use Rattle.c_cache_keys.proofs.Pairs.{find_own}
use Rattle.c_cache_keys.proofs.Parts.{key_here}
use Rattle.c_cache_keys.specs.External.{External, Prints, no_text}
use Rattle.c_cache_keys.specs.Requests.{call_for, world_for}
use Rattle.c_cache_keys.specs.Snapshot.{IsLookedUp, one_pair}
use Rattle.c_cache_keys.specs.Statuses.{AsksWith, matching_with}
use Rattle.c_cache_keys.specs.declared.requests.SnapshotRequest.{SnapshotRequest}

some_none : {A : Type 0} {x : A} {o : Option A} → o ≡ Some x → o ≢ None
some_none is none = none-some _ (sym none ∙ is)

-- a call that has a preprocessor key has digests of its extra files, and its input
pub key_opens : {V : Type 0} (w : World V) (c : Call V) (k : Bytes) → preprocessor_key_of w c ≡ Some k → Opened w c
unfolding input_file
key_opens w c k is =
    let (m, is-m, same) = key_known w c k is in
    let (used, xs, r, is-xs, is-r, made-of) = material_known w c m is-m in
    let (n, file, digest) = input_known w c r is-r in
    record { extra = some_none is-xs; input = λ used none. none-some _ (sym none ∙ ap result_ok file) }

module _ (hash : Bytes → Bytes) (files : FileMap) (r : SnapshotRequest) (F : Type 0) (statuses : Statuses) (e : Entry) where
  abbrev w : Prints → World External
  w prints = world_for hash prints r

  asks : (key k bytes : Bytes) → preprocessor_key_of (w no_text) (call_for Default files r) ≡ Some k → EntryText e bytes
      → IsLookup (matching_with (w no_text) statuses (call_for Default files r)) (entries e) F (Some key) → (prints : Prints)
      → AsksWith (w prints) map_store statuses (call_for Default files r) F (one_pair k bytes) (Keyed key false) (call_begun (one_pair k bytes))
  asks key k bytes is text (list, at, all, which) prints = record {
    opened = opened hash (plain_zone r.zone.now) r.config (lists_of r.basedirs.now) no_text prints (call_for Default files r) (key_opens (w no_text) (call_for Default files r) k is);
    key = k;
    is_key = sym (key_same hash (plain_zone r.zone.now) r.config (lists_of r.basedirs.now) no_text prints (call_for Default files r)) ∙ is;
    control = refl;
    returned = Ok (Some bytes);
    mid = call_begun (one_pair k bytes);
    got = (refl, sym (find_own k bytes), refl);
    outcome = Some (Keyed key false);
    gives = matched bytes key e list refl text at all which;
    ends = (refl, refl);
  }

  -- what is found in the entry is the result of a look-up
  pub looked_up : (found : Option Bytes) → IsLookup (matching_with (w no_text) statuses (call_for Default files r)) (entries e) F found → IsLookedUp hash files r F statuses e found
  looked_up None none = none
  looked_up (Some key) h = λ k bytes part text prints. (
    call_begun (one_pair k bytes),
    asks key k bytes (key_here (w no_text) (call_for Default part.0 r) files part.1 k part.2) text h prints,
  )

-- what follows of a result
pub if_ok : {X E : Type 0} (P Q : X → Type 0) → ((x : X) → P x → Q x) → (r : Result X E) → IfOk r P → IfOk r Q
if_ok P Q follows (Ok x) h = follows x h
if_ok P Q follows (Err e) h = tt
