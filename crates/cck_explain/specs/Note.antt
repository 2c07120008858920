-- the note of a call: what it did, but for its result
use Rattle.std.specs.Prelude.{◌≡◌, ◌≢◌, ◌⊎◌, ℕ, List, [], ◌∷◌, ◌++◌, Bool, Option, Some, None, Result, Ok, Err, codes, is_none, map, reverse, string_bytes, if◌then◌else◌}
use Rattle.std.specs.FinMap.{entries}
use Rattle.std.specs.Fmt.{decimal}
use Rattle.std.specs.List.{AllZip, flat_map, list_all}
use Rattle.cck_entry.specs.Entry.{Entry, Reads}
use Rattle.cck_explain_listing.specs.Quoted.{quoted}
use Rattle.cck_files.specs.FileMap.{FileMap}
use Rattle.cck_include.specs.Setting.{Setting}
use Rattle.cck_path.specs.Bytes.{Bytes}
use Rattle.cck_util.specs.Store.{Returned, Stored, returned_by}
use Rattle.cck_util.specs.declared.store.StoreError.{StoreError}
use Rattle.cck_util.specs.declared.store.StoreError.TheVariants as store
use Rattle.cck_digest.specs.declared.entry_error.Error.{Error}
use Rattle.cck_digest.specs.declared.entry_error.Error.TheVariants.{Memory}
use Rattle.cck_explain.specs.Judged.{AreJudgedResults, Judged, JudgedResult}
use Rattle.cck_explain.specs.declared.difference.Difference.{Difference}
use Rattle.cck_explain.specs.declared.difference.Difference.TheVariants.{Missing, Contents, Day, Second, DayOrSecond}
use Rattle.cck_explain.specs.declared.watched_store.WatchedCall.{WatchedCall}
use Rattle.cck_explain.specs.declared.watched_store.WatchedCall.TheVariants as watched

-- a get of a store or a put into it: the key, and what was returned
pub data StoreCall : Type 0 where
  Got : Bytes → Returned → StoreCall
  Put : Bytes → Stored → StoreCall

abbrev pub store_call : WatchedCall → StoreCall
store_call (watched.Get key returned) = Got (string_bytes key) (returned_by returned)
store_call (watched.Put key returned) = Put (string_bytes key) returned

-- ---- words

abbrev pub difference_word : Difference → Bytes
difference_word Missing = codes "missing"
difference_word Contents = codes "contents"
difference_word Day = codes "day"
difference_word Second = codes "second"
difference_word DayOrSecond = codes "day or second"

abbrev pub failure_word : StoreError → Bytes
failure_word store.Fault = codes "failed"
failure_word store.Memory = codes "out of memory"

abbrev pub change_word : Bool → Bytes
change_word is_unchanged = if is_unchanged then codes "unchanged" else codes "changed"

-- ---- lines

-- the number of a call and its input
abbrev pub head_line : ℕ → Bytes → Bytes
head_line number input = codes "call " ++ decimal number ++ codes " " ++ quoted input ++ 10 ∷ []

-- the line of an included file that has a difference, and nothing for one that has none
abbrev pub include_line : Judged → Bytes
include_line (i, None) = []
include_line (i, Some difference) = codes "include " ++ quoted i.path ++ codes " " ++ difference_word difference ++ 10 ∷ []

-- the lines of a result: its key and whether no included file has a difference, and those that have one
abbrev pub result_lines : JudgedResult → Bytes
result_lines r =
    codes "result " ++ quoted (r.0) ++ codes " " ++ change_word (list_all (λ j. is_none (j.1)) (r.1)) ++ 10 ∷ [] ++ flat_map include_line (r.1)

-- the line of a put
abbrev pub put_line : Stored → Bytes
put_line (Ok done) = codes "put done" ++ 10 ∷ []
put_line (Err error) = codes "put " ++ failure_word error ++ 10 ∷ []

-- the key of the first of these calls, or `-`
abbrev pub key_of : List StoreCall → Bytes
key_of [] = codes "-"
key_of (Got key returned ∷ calls) = key
key_of (Put key returned ∷ calls) = key

-- the line that says that there was no get before any put, where it is so
abbrev pub not_asked_line : List StoreCall → Bytes
not_asked_line [] = codes "store not asked" ++ 10 ∷ []
not_asked_line (Got key returned ∷ calls) = []
not_asked_line (Put key returned ∷ calls) = codes "store not asked" ++ 10 ∷ []

-- the first lines of a note: the preprocessor key, and whether the store was asked
abbrev pub opening_lines : List StoreCall → Bytes
opening_lines calls = codes "preprocessor_key " ++ key_of calls ++ 10 ∷ [] ++ not_asked_line calls

-- ---- what files are judged by: a setting, and the files

module _ (s : Setting) (files : FileMap) where
  -- The lines of bytes that the store returned. They are an entry, and each of its results is judged, from the greatest key down; or they
  -- are none.
  abbrev pub IsEntryNoted : Bytes → Bytes → Type 0
  IsEntryNoted bytes text =
      ((e : Entry) × Reads (Ok e) bytes × ((judged : List JudgedResult) × AreJudgedResults s files (reverse (entries e)) judged
      × (text ≡ codes "store entry" ++ 10 ∷ [] ++ flat_map result_lines judged)))
      ⊎ (((error : Error) × (error ≢ Memory) × Reads (Err error) bytes) × (text ≡ codes "store no entry" ++ 10 ∷ []))

  -- the lines of what a get returned
  abbrev pub IsReturnedNoted : Returned → Bytes → Type 0
  IsReturnedNoted (Ok (Some bytes)) text = IsEntryNoted bytes text
  IsReturnedNoted (Ok None) text = text ≡ codes "store nothing" ++ 10 ∷ []
  IsReturnedNoted (Err error) text = text ≡ codes "store " ++ failure_word error ++ 10 ∷ []

  -- the lines of a get or a put
  abbrev pub IsCallNoted : StoreCall → Bytes → Type 0
  IsCallNoted (Got key returned) text = IsReturnedNoted returned text
  IsCallNoted (Put key stored) text = text ≡ put_line stored

  -- the lines of these gets and puts, in order, after those of the preprocessor key
  abbrev pub AreCallsNoted : List StoreCall → Bytes → Type 0
  AreCallsNoted calls text = (texts : List Bytes) × AllZip IsCallNoted calls texts × (text ≡ opening_lines calls ++ flat_map (λ t. t) texts)

  -- the note of a call with this number and this input
  abbrev pub IsNote : ℕ → Bytes → Bytes → Type 0
  IsNote number input note = (calls : List StoreCall) × (text : Bytes) × AreCallsNoted calls text × (note ≡ head_line number input ++ text)
