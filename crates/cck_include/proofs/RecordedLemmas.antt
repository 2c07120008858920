-- The result of one reading of a file is right for the file.
use Rattle.std.proofs.Common.{◌≡◌, ◌↔◌, ℕ, Bool, true, false, ◌||◌, List, Option, Some, Result, Ok, Err, IfOk, IsOkAnd, IsTrue, MatchResult, refl, sym, ap, subst}
use Rattle.std.specs.Prelude.{IsOkUnless, String}
use Rattle.std.specs.Option.{option_map}
use Rattle.std.specs.String.{string_bytes}
use Rattle.std.specs.declared.alloc.Global.{Global}
use Rattle.cck_digest.specs.Digest.{digest_text}
use Rattle.cck_digest.specs.declared.error.FileError.{FileError}
use Rattle.cck_digest.specs.declared.error.FileError.TheVariants.{NotFound, OtherKind, Fault, Memory}
use Rattle.cck_files.proofs.CallsLemmas.{error_by}
use Rattle.cck_files.proofs.FileLemmas.{file_with_contents, metadata_of_file, no_file_without_contents, no_file_without_metadata}
use Rattle.cck_files.specs.Calls.{IsError, IsErrorOrMemory}
use Rattle.cck_files.specs.FileMap.{FileMap, FileNode, contents_at, file_at, metadata_at}
use Rattle.cck_path.specs.Path.{Path}
use Rattle.cck_path.specs.declared.metadata.Metadata.{Metadata}
use Rattle.cck_include.specs.TimePart.{time_part}
use Rattle.cck_digest.specs.declared.entry_error.Error.{Error}
use Rattle.cck_digest.specs.declared.entry_error.Error.TheVariants as error
use Rattle.cck_include.proofs.ErrorLemmas.{by_file_error}
use Rattle.cck_include.specs.Recorded.{recorded, recorded_by}
use Rattle.cck_include.specs.Setting.{Setting}
use Rattle.cck_include.specs.Errors.{IsIoError, io_error}
use Rattle.cck_include.specs.Scan.{IsScanOf}
use Rattle.cck_include.specs.declared.recorded.Scan.{Scan}

-- two tests of the same statement agree
pub same_test : (a b : Bool) (P : Type 0) → IsTrue a ↔ P → IsTrue b ↔ P → a ≡ b
same_test true true P h k = refl
same_test true false P h k = sym (k.1 (h.0 refl))
same_test false true P h k = h.1 (k.0 refl)
same_test false false P h k = refl

pub ok_by : {X E : Type 0} (r : Result X E) (P Q : X → Type 0) → ((x : X) → P x → Q x) → IsOkAnd r P → IsOkAnd r Q
ok_by (Ok x) P Q f h = f x h
ok_by (Err e) P Q f h = h

-- errors
pub without_metadata : (files : FileMap) (p : Path) (P : Type 0) (e : FileError) → IsError (metadata_at files p) P e → IsIoError (file_at files p) P (io_error e)
without_metadata files p P NotFound r = no_file_without_metadata files p NotFound r
without_metadata files p P OtherKind r = no_file_without_metadata files p OtherKind r
without_metadata files p P Fault r = r
without_metadata files p P Memory r = absurd r

pub without_contents : (files : FileMap) (p : Path) (P Q : Type 0) (e : FileError) → (P → Q) → IsErrorOrMemory (contents_at files p) P e → IsIoError (file_at files p) Q (io_error e)
without_contents files p P Q NotFound f r = no_file_without_contents files p NotFound r
without_contents files p P Q OtherKind f r = no_file_without_contents files p OtherKind r
without_contents files p P Q Fault f r = f r
without_contents files p P Q Memory f r = tt

-- a fault of a part is a fault of the whole
error_by_fault : {X : Type 0} (found : Result X FileError) (P Q : Type 0) (e : Error) → (P → Q) → IsIoError found P e → IsIoError found Q e
error_by_fault found P Q e f h = by_file_error (IsError found P) (IsIoError found Q) e h tt (λ x at. error_by found P Q x f at)

pub returned_by_result : {X Y : Type 0} (r : Result X Error) (Holds : X → Type 0) (found : Result Y FileError) (P Q : Type 0) → (P → Q)
    → MatchResult r Holds (IsIoError found P) → MatchResult r Holds (IsIoError found Q)
returned_by_result (Ok x) Holds found P Q f h = h
returned_by_result (Err e) Holds found P Q f h = error_by_fault found P Q e f h

-- a file that was read
with_contents : (files : FileMap) (p : Path) (r : Result (List ℕ) FileError) (P : List ℕ → Type 0) → contents_at files p ≡ r → IsOkAnd r P
    → (n : FileNode) × (file_at files p ≡ Ok n) × P n.contents
with_contents files p (Ok c) P e h = let found = file_with_contents files p c e in (found.0, found.1, subst P (sym found.2) h)
with_contents files p (Err x) P e h = absurd h

-- the digest where time macros are ignored,
ignoring : (s : Setting) (n : FileNode) (text : List ℕ) → s.config.ignore_time_macros ≡ true → text ≡ digest_text s.hash n.contents → Some text ≡ recorded s n
unfolding recorded
ignoring s n text ignores is = rw ignores (ap Some is)

pub recorded_ignoring : (s : Setting) (files : FileMap) (p : Path) (text : List ℕ) → s.config.ignore_time_macros ≡ true
    → IsOkAnd (contents_at files p) (λ contents. text ≡ digest_text s.hash contents) → IsOkAnd (file_at files p) (λ n. Some text ≡ recorded s n)
recorded_ignoring s files p text ignores read =
    let (n, is, claim) = with_contents files p (contents_at files p) (λ contents. text ≡ digest_text s.hash contents) refl read in
    rw is (ignoring s n text ignores claim)

-- and where they count
counting : (s : Setting) (n : FileNode) (scan : Scan) (o : Option (List ℕ)) → s.config.ignore_time_macros ≡ false → IsScanOf s.hash scan n.contents
    → o ≡ recorded_by s.hash scan.has_time (scan.has_date || scan.has_timestamp) (string_bytes scan.text) (time_part scan.has_date scan.has_timestamp n.modified s.moment s.zone s.variables)
    → o ≡ recorded s n
unfolding recorded
counting s n scan o counts claim e = rw (counts, ← claim.time, ← claim.date, ← claim.timestamp, ← claim.text) e

pub recorded_counting : (s : Setting) (files : FileMap) (p : Path) (scan : Scan) (m : Metadata) (Q : Type 0) (r : Result (Option (String Global)) Error)
    → s.config.ignore_time_macros ≡ false → metadata_at files p ≡ Ok m → IsOkAnd (contents_at files p) (IsScanOf s.hash scan)
    → IfOk r (λ o. option_map string_bytes o ≡ recorded_by s.hash scan.has_time (scan.has_date || scan.has_timestamp) (string_bytes scan.text) (time_part scan.has_date scan.has_timestamp m.modified s.moment s.zone s.variables))
    → IsOkUnless r error.Memory
    → MatchResult r (λ o. IsOkAnd (file_at files p) (λ n. option_map string_bytes o ≡ recorded s n)) (IsIoError (file_at files p) Q)
recorded_counting s files p scan m Q (Ok o) counts known read digest refused =
    let (n, is, claim) = with_contents files p (contents_at files p) (IsScanOf s.hash scan) refl read in
    let own = metadata_of_file files p n m is known in
    let modified : m.modified ≡ n.modified = ap (λ (d : Metadata). d.modified) own.0 in
    rw is (counting s n scan (option_map string_bytes o) counts claim (rw (← modified) digest))
recorded_counting s files p scan m Q (Err e) counts known read digest refused =
    subst (IsIoError (file_at files p) Q) (sym refused) tt
