-- entries: finite maps from keys to the files that were included
use Rattle.std.specs.Prelude.{◌≡◌, ◌≢◌, ◌⊎◌, ◌||◌, ℕ, ◌+◌, ◌<◌, ◌^◌, ℤ, List, [], ◌∷◌, length, map, Bool, Option, Result, Ok, Err, String, refl, nat_lt, if◌then◌else◌}
use Rattle.std.specs.Coded.{Coded, code_by, coded×, coded_list, coded_option, coded_ℕ, coded_ℤ}
use Rattle.std.specs.FinMap.{FinMap, code, empty, entries, from_sorted, insert, len}
use Rattle.std.specs.Global.{Vec}
use Rattle.std.specs.List.{AllByRecursion}
use Rattle.std.specs.declared.alloc.Global.{Global}
use Rattle.cck_path.specs.TextOrder.{text_cmp}
use Rattle.cck_path.specs.Timestamp.{Moment}
use Rattle.cck_digest.specs.declared.entry_error.Error.{Error}
use Rattle.cck_digest.specs.declared.entry_error.Error.TheVariants.{Deserialization, Io, Memory, UnknownFormat}
use Rattle.cck_entry.specs.Results.{FitsResult, KeyResult, result_in}
use Rattle.cck_include.specs.Include.{Include, format_version}
use Rattle.cck_entry.specs.Writing.{entry_bytes}
use Rattle.cck_include.specs.declared.include.IncludeEntry.{IncludeEntry}

-- an entry has, for each key, a list of includes
abbrev pub Entry : Type 0
Entry = FinMap text_cmp (List Include)

-- the entry that a map holds
abbrev pub entry_in : List (String Global × Vec IncludeEntry) → Entry
entry_in results = from_sorted (map result_in results)

-- such values have a code
abbrev pub moment_code : Coded Moment
moment_code = code_by (ℤ × ℕ) (coded× coded_ℤ coded_ℕ) (λ m. (m.seconds, m.nanoseconds)) (λ p. record { seconds = p.0; nanoseconds = p.1 }) (λ _. refl)

abbrev pub include_code : Coded Include
include_code =
    code_by ((List ℕ × List ℕ) × (ℕ × (Option Moment × Option Moment)))
    (coded× (coded× (coded_list coded_ℕ) (coded_list coded_ℕ)) (coded× coded_ℕ (coded× (coded_option moment_code) (coded_option moment_code))))
    (λ i. ((i.path, i.digest), (i.size, (i.modified, i.changed))))
    (λ p. record { path = p.0.0; digest = p.0.1; size = p.1.0; modified = p.1.1.0; changed = p.1.1.1 })
    (λ _. refl)

abbrev pub entry_code : Coded Entry
entry_code = code (coded_list coded_ℕ) (coded_list include_code)

-- the number of includes of all results together
abbrev pub include_count : List KeyResult → ℕ
include_count [] = 0
include_count (r ∷ rs) = length (r.1) + include_count rs

-- These bytes are the entry's text: no key occurs twice, the keys ascend, and all numbers fit.
pub record EntryText (e : Entry) (bytes : List ℕ) : Type 0 where
  pub count : length (entries e) < 2 ^ 64
  pub each : AllByRecursion FitsResult (entries e)
  pub text : bytes ≡ entry_bytes (entries e)

-- what bytes may be read as
abbrev pub Reads : Result Entry Error → List ℕ → Type 0
Reads (Ok e) bytes = EntryText e bytes ⊎ ((bytes ≡ []) × (e ≡ empty))
Reads (Err (UnknownFormat x)) bytes = (rest : List ℕ) × (bytes ≡ x ∷ rest) × (x ≢ format_version)
Reads (Err Deserialization) bytes = (rest : List ℕ) × (bytes ≡ format_version ∷ rest) × ((e : Entry) → EntryText e bytes → ⊥)
Reads (Err Memory) bytes = Unit {0}
Reads (Err (Io u)) bytes = ⊥

-- this entry, unless memory ran out
abbrev pub IsEntryOrMemory : Entry → Result Entry Error → Type 0
IsEntryOrMemory e (Ok f) = f ≡ e
IsEntryOrMemory e (Err Memory) = Unit {0}
IsEntryOrMemory e (Err Deserialization) = ⊥
IsEntryOrMemory e (Err (UnknownFormat x)) = ⊥
IsEntryOrMemory e (Err (Io u)) = ⊥

-- what the bytes after the format may be read as, and as nothing else
abbrev pub IsReadFrom : List ℕ → Result Entry Error → Type 0
IsReadFrom rest (Ok e) = EntryText e (format_version ∷ rest) × ((f : Entry) → EntryText f (format_version ∷ rest) → e ≡ f)
IsReadFrom rest (Err Memory) = Unit {0}
IsReadFrom rest (Err Deserialization) = (e : Entry) → EntryText e (format_version ∷ rest) → ⊥
IsReadFrom rest (Err (UnknownFormat x)) = ⊥
IsReadFrom rest (Err (Io u)) = ⊥

-- the entry, or the empty one where it has more than 100 results
abbrev pub within_results : Entry → Entry
within_results e = if nat_lt 100 (len e) then empty else e

-- the entry, or the empty one where its includes and `more` are above 10000
abbrev pub within_includes : Entry → ℕ → Entry
within_includes e more = if nat_lt 10000 (include_count (entries e) + more) then empty else e

-- The key's result is replaced or put in, once what is too much is cleared. What the key had before counts too.
abbrev pub added : Entry → List ℕ → List Include → Entry
added e key list = insert (within_includes (within_results e) (length list)) key list

-- either limit is exceeded
abbrev pub is_over : Entry → ℕ → Bool
is_over e more = nat_lt 100 (len e) || nat_lt 10000 (include_count (entries e) + more)
