-- Entries that an iterator gives, by their places.
use Rattle.std.proofs.Common.{◌≡◌, ◌<◌, List, Option, Some, None, Bor, length, get_or, refl}
use Rattle.std.proofs.lemmas.Iterator.Consumers.{YieldsList-end, YieldsList-from_first, YieldsList-turn}
use Rattle.std.specs.Iterator.{Yields, YieldsFirstBy}
use Rattle.cck_path.specs.Entries.{entries_left, now_of}
use Rattle.cck_path.specs.declared.entries.Entries.{Entries}
use Rattle.cck_path.specs.declared.path_map.Entry.{Entry}

module _ {V : Type 0} (start : Entries V) (yielded : List (Bor (Entry V))) (it : Entries V) (run : Yields (YieldsFirstBy now_of entries_left) start yielded it) (r : Option (Bor (Entry V))) (after : Entries V) where
  -- the entry of a turn is the one at its place
  pub entry_at : (e : Bor (Entry V)) → r ≡ Some e → YieldsFirstBy now_of entries_left it r after → (length yielded < length (entries_left start)) × (e.now ≡ get_or (entries_left start) (length yielded) e.now)
  entry_at e is step = YieldsList-turn (YieldsList-from_first now_of entries_left (entries_left start) refl) yielded it run r after e is step

  -- at the end all entries were given
  pub all_given : r ≡ None → YieldsFirstBy now_of entries_left it r after → length yielded ≡ length (entries_left start)
  all_given is step = (YieldsList-end (YieldsList-from_first now_of entries_left (entries_left start) refl) yielded it run r after is step).1
