-- the result of a recorded entry added to an entry that a store held
use Rattle.std.specs.Prelude.{◌≡◌, ◌⊎◌, List, []}
use Rattle.std.specs.FinMap.{empty, insert}
use Rattle.cck_entry.specs.Entry.{Entry, EntryText, added}
use Rattle.cck_include.specs.Include.{Include}
use Rattle.cck_path.specs.Bytes.{Bytes}
use Rattle.cck_util.specs.Store.{Store}
use Rattle.c_cache_keys.specs.SnapshotLaws.{HasOneResult}

-- the bytes are the text of no entry
abbrev pub IsNoEntry : Bytes → Type 0
IsNoEntry bytes = (e : Entry) → EntryText e bytes → ⊥

-- What becomes of the bytes of an entry of one result: the text of the held entry with this result. They stay as they are where the held bytes
-- are no entry, or they are no such entry themselves.
pub data IsAddition (held one bytes : Bytes) : Type 0 where
  adds : (e : Entry) (key : Bytes) (includes : List Include) → EntryText e held → EntryText (insert empty key includes) one
      → EntryText (added e key includes) bytes → IsAddition held one bytes
  none_held : IsNoEntry held → bytes ≡ one → IsAddition held one bytes
  not_one : (HasOneResult one → ⊥) → bytes ≡ one → IsAddition held one bytes

-- what the store holds under the key: these bytes, or nothing and no bytes
abbrev pub Holds : {S : Type 0} → Store S → S → Bytes → Bytes → Type 0
Holds st s k held = st.held s k held ⊎ ((held ≡ []) × ((bytes : Bytes) → st.held s k bytes → ⊥))
