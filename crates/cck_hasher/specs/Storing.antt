-- the results of storing a computed key
use Rattle.std.specs.Prelude.{◌≡◌, ◌⊎◌, List, None, Some, Result, Ok, Err}
use Rattle.std.specs.FinMap.{empty}
use Rattle.std.specs.declared.alloc.AllocError.{AllocError}
use Rattle.cck_entry.specs.Entry.{EntryText, added}
use Rattle.cck_files.specs.FileMap.{FileMap}
use Rattle.cck_include.specs.Gathered.{Digested, gathered}
use Rattle.cck_include.specs.Include.{Include}
use Rattle.cck_path.specs.Bytes.{Bytes}
use Rattle.cck_path.specs.Timestamp.{Moment}
use Rattle.cck_util.specs.Store.{Store, Stored}

-- The text of the entry of this one result is put; or nothing is, where an included file is missing, there was a fault or memory is lacking.
abbrev pub IsPut : {S : Type 0} → Store S → FileMap → Moment → List Digested → Bytes → Bytes → Type 0 → S → Result (Unit {0}) AllocError → S → Type 0
IsPut st files moment digested k key HasFault s (Err e) t = t ≡ s
IsPut st files moment digested k key HasFault s (Ok u) t =
    ((t ≡ s) × (HasFault ⊎ (gathered files moment digested ≡ None)))
    ⊎ ((includes : List Include) × (gathered files moment digested ≡ Some includes)
    × (bytes : Bytes) × EntryText (added empty key includes) bytes × (from_store : Stored) × st.put s k bytes from_store t)
