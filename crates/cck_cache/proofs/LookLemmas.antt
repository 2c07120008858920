-- what a look-up finds
use Rattle.std.proofs.Common.{◌≡◌, ◌∙◌, [], ℕ, Bool, List, None, Option, Some, String, false, inl, inr, refl, string_bytes, true, IfSome, sym, ap, subst}
use Rattle.std.specs.Global.{Vec}
use Rattle.std.specs.declared.alloc.Global.{Global}
use Rattle.cck_cache.specs.Look.{IsFoundFor, IsGivenEntry, IsGivenObject, IsKeptObject, IsLookResult, IsLooked, IsNameOf, IsObjectIn, IsPlace, IsWrong}
use Rattle.cck_cache.specs.Outputs.{has_outputs}
use Rattle.cck_cache.specs.Request.{HasPreprocessorKey}
use Rattle.cck_cache.specs.declared.environment.Environment.{Environment}
use Rattle.cck_cache.specs.declared.look.Found.{Found}
use Rattle.cck_cache.specs.declared.look.Found.TheVariants.{Hit, Miss, NoKey}
use Rattle.cck_cache.specs.declared.look.Looked.{Looked}
use Rattle.cck_cache.specs.declared.look.Looked.TheVariants.{Object, Missed}
use Rattle.cck_cache.specs.declared.look.LookUp.{LookUp}
use Rattle.cck_cache.specs.declared.wanted.Look.{Look}
use Rattle.cck_cache_options.specs.declared.task.Outputs.{Outputs}
use Rattle.cck_cache_files.specs.PathStatuses.{AreAsRecorded}
use Rattle.cck_cache_files.specs.declared.store_directory.Kind.{Kind}
use Rattle.cck_cache_files.specs.declared.store_directory.Kind.TheVariants as kind
use Rattle.cck_cache_rules.specs.Contents.{ReadsFor, key_of_entry, key_of_object}
use Rattle.cck_cache_rules.specs.Files.{EntryFields, IsEntryFile, entry_file, object_fields, object_file}
use Rattle.cck_cache_rules.specs.PathStatus.{Status, statuses_of}
use Rattle.cck_cache_rules.specs.Reading.{IsAny}
use Rattle.cck_cache_rules.specs.declared.object_file.ObjectFile.{ObjectFile}
use Rattle.cck_cache_rules.specs.declared.path_status.PathStatus.{PathStatus}
use Rattle.cck_cache_store.specs.Given.{IsGiven}
use Rattle.cck_cache_store.specs.declared.given.Given.TheVariants as given
use Rattle.cck_path.specs.Bytes.{Bytes}
use Rattle.cck_entry.specs.Statuses.{Statuses}
use Rattle.cck_hasher.proofs.Elements.{none_in}

-- what is known by no status is nothing, so it has the times of any list
recorded_by_none : (recorded : List Status) (known : Statuses) → AreAsRecorded [] known → AreAsRecorded recorded known
recorded_by_none recorded known are p m is = absurd (none_in (are p m is).status (are p m is).is_one)

-- what is known by the statuses of a file, or by none where all is read, has the times of the file's
pub recorded_by : (reads_all : Bool) (recorded given : List PathStatus) (known : Statuses) → (reads_all ≡ true → given ≡ []) → (reads_all ≡ false → given ≡ recorded)
    → AreAsRecorded (statuses_of given) known → AreAsRecorded (statuses_of recorded) known
recorded_by true recorded given known none all are =
    recorded_by_none (statuses_of recorded) known (subst (λ (xs : List PathStatus). AreAsRecorded (statuses_of xs) known) (none refl) are)
recorded_by false recorded given known none all are = subst (λ (xs : List PathStatus). AreAsRecorded (statuses_of xs) known) (all refl) are

-- an object file that was found under the name of a match
pub looked_kept : (lookup : LookUp) (place : Option ℕ) (name : String Global) (looked : Looked) → IsPlace place → IsNameOf lookup name
    → IsKeptObject lookup.wanted.now.outputs place name looked → IsLooked lookup looked
looked_kept lookup place name (Object p n object) small is kept = (
  subst IsPlace (sym kept.0) small,
  subst (λ (x : String Global). IsNameOf lookup x) (sym kept.1) is,
  kept.2 ∙ sym (ap string_bytes kept.1),
  kept.3,
)
looked_kept lookup place name (Missed missed) small is kept = subst (λ (x : Option (String Global)). IfSome x (IsNameOf lookup)) (sym kept) is

-- bytes of no object file of a name
pub damaged_in : (outputs : Outputs) (name bytes : Bytes) (file : String Global) (looked : Looked) → IsWrong (Some file) None looked
    → ReadsFor IsAny key_of_object object_file name bytes None → IsObjectIn outputs name bytes file looked
damaged_in outputs name bytes file (Object place n object) wrong none = absurd wrong
damaged_in outputs name bytes file (Missed missed) wrong none = (wrong.1, inl (wrong.0, none))

-- an object file that lacks an output
pub lacking_in : (outputs : Outputs) (name bytes : Bytes) (file : String Global) (object : ObjectFile) (looked : Looked) → IsWrong None None looked
    → ReadsFor IsAny key_of_object object_file name bytes (Some (object_fields object)) → has_outputs outputs object ≡ false → IsObjectIn outputs name bytes file looked
lacking_in outputs name bytes file object (Object place n o) wrong read lacks = absurd wrong
lacking_in outputs name bytes file object (Missed missed) wrong read lacks = (wrong.1, inr (wrong.0, (object, read, lacks)))

-- an object file that a server gave, or none
pub object_given : (Has : Kind → Bytes → Bytes → Type 0) (key : Option Bytes) (outputs : Outputs) (name : Bytes) (bytes : Vec ℕ) (file : String Global) (looked : Looked)
    → IsGiven (Has kind.Object name) key kind.Object name (given.File bytes) → IsObjectIn outputs name bytes.items file looked → IsGivenObject Has key name looked
object_given Has key outputs name bytes file (Object place n object) is read = (bytes, is, read)
object_given Has key outputs name bytes file (Missed missed) is read =
    subst (λ (o : Option (String Global)). IfSome o (λ (value : String Global). IsGiven (Has kind.Object name) key kind.Object name given.Forged)) (sym read.0) tt

-- what was found by an entry file that a server gave
pub entry_given : (Has : Kind → Bytes → Bytes → Type 0) (key : Option Bytes) (name : Bytes) (bytes : Vec ℕ) (fields : EntryFields) (looked : Looked)
    → IsGiven (Has kind.Entry name) key kind.Entry name (given.File bytes) → ReadsFor IsEntryFile key_of_entry entry_file name bytes.items (Some fields) → IsGivenEntry Has key name looked
entry_given Has key name bytes fields (Object place n object) is read = (bytes, is, (fields, read))
entry_given Has key name bytes fields (Missed missed) is read = tt

-- the result for the preprocessor key of a request is the result for the request
pub found_all : (environment : Environment) (wanted : Look) (key : String Global) (has : HasPreprocessorKey environment wanted.request (Some (string_bytes key))) (found : Found)
    → IsFoundFor environment.reads_all wanted has.asked has.input key found → IsLookResult environment wanted found
found_all environment wanted key has (Hit k place n file) is =
    subst (λ (x : String Global). IsLookResult environment wanted (Hit x place n file)) (sym is.0) (has, is.1, is.2, is.3, is.4)
found_all environment wanted key has (Miss k since missed) is =
    subst (λ (x : String Global). IsLookResult environment wanted (Miss x since missed)) (sym is.0) (has, is.1)
found_all environment wanted key has NoKey is = absurd is
