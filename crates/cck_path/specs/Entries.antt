-- the entries that an iterator over a map has not returned yet
use Rattle.std.specs.Prelude.{List, ◌++◌}
use Rattle.std.specs.Borrow.{Bor}
use Rattle.cck_path.specs.Blocks.{entries_of}
use Rattle.cck_path.specs.declared.path_map.Entry.{Entry}
use Rattle.cck_path.specs.declared.entries.Entries.{Entries}

-- the entries that are left
abbrev pub entries_left : {V : Type 0} → Entries V → List (Entry V)
entries_left e = e.block.now ++ entries_of e.blocks.now

-- the entry that a borrow points to
abbrev pub now_of : {V : Type 0} → Bor (Entry V) → Entry V
now_of e = e.now
