-- the listing of bytes that may be an entry
use Rattle.std.specs.Prelude.{◌≡◌, ◌⊎◌, [], ◌∷◌, ◌++◌, codes}
use Rattle.std.specs.FinMap.{empty}
use Rattle.std.specs.Fmt.{decimal}
use Rattle.cck_entry.specs.Entry.{Entry, EntryText}
use Rattle.cck_path.specs.Bytes.{Bytes}
use Rattle.cck_explain_listing.specs.Fault.{fault_at, wrong_in}
use Rattle.cck_explain_listing.specs.EntryListing.{entry_lines}
use Rattle.cck_explain_listing.specs.declared.entry_text.EntryError.{EntryError}
use Rattle.cck_explain_listing.specs.declared.entry_text.EntryError.TheVariants.{Memory, NotEntry}

-- the bytes are the entry's text; or there are none, and the entry has no results
abbrev pub IsEntryOf : Entry → Bytes → Type 0
IsEntryOf e bytes = EntryText e bytes ⊎ ((bytes ≡ []) × (e ≡ empty))

-- the line of the format, which is the first byte
abbrev pub format_line : Bytes → Bytes
format_line [] = codes "format -" ++ 10 ∷ []
format_line (format ∷ rest) = codes "format " ++ decimal format ++ 10 ∷ []

-- the format of these bytes, and the lines of the entry that they are
abbrev pub IsEntryListing : Bytes → Bytes → Type 0
IsEntryListing bytes listing = (e : Entry) × IsEntryOf e bytes × (listing ≡ format_line bytes ++ entry_lines e)

-- the bytes are no entry, and this is their first wrong field; or memory ran out
abbrev pub IsErrorFor : Bytes → EntryError → Type 0
IsErrorFor bytes Memory = Unit {0}
IsErrorFor bytes (NotEntry fault) = ((e : Entry) → IsEntryOf e bytes → ⊥) × (fault ≡ fault_at bytes (wrong_in bytes))
