-- the files that an entry names
use Rattle.std.proofs.Common.{◌≡◌, ◌∙◌, inl, inr, List, ◌∷◌, [], ◌++◌, sym, ap, append_assoc, subst}
use Rattle.std.proofs.lemmas.List.Elements.{Contains-append_left, Contains-push}
use Rattle.std.specs.List.{Contains}
use Rattle.cck_cache_files.proofs.SnapshotLemmas.{calm_all, grows_more}
use Rattle.cck_cache_files.specs.Snapshot.{IsPart, SnapshotGrows, StaysCalm}
use Rattle.cck_cache_files.specs.PathStatuses.{IsIncludeAdded}
use Rattle.cck_cache.proofs.InputLemmas.{put_all}
use Rattle.cck_entry.specs.Statuses.{Statuses}
use Rattle.cck_files.specs.FileState.{FileState, IsQuiet}
use Rattle.cck_include.specs.Include.{Include}
use Rattle.cck_path.specs.Bytes.{Bytes}

-- what comes after others is among all
pub among : {X : Type 0} (done left rest all : List X) (x : X) → left ≡ x ∷ rest → done ++ left ≡ all → (Contains all x) × ((done ++ x ∷ []) ++ rest ≡ all)
among {X} done left rest all x steps same =
    let whole : (done ++ x ∷ []) ++ rest ≡ all = append_assoc done (x ∷ []) rest ∙ (ap (λ (xs : List X). done ++ xs) (sym steps) ∙ same) in
    (subst (λ (xs : List X). Contains xs x) whole (Contains-append_left (done ++ x ∷ []) rest x (Contains-push done x)), whole)

-- an include was added to a snapshot that has grown by such files
pub grows_included : (At : Bytes → Type 0) (a b c : FileState) (i : Include) (known : Statuses) → SnapshotGrows At a b → At i.path → IsIncludeAdded i known b c
    → (IsQuiet b → IsPart b.files c.files) → StaysCalm b c → SnapshotGrows At a c
grows_included At a b c i known grown at (inl by_status) kept calm = subst (λ (s : FileState). SnapshotGrows At a s) (sym by_status.1) grown
grows_included At a b c i known grown at (inr by_file) kept calm = grows_more At a b c i.path grown at by_file.1 kept calm

-- a snapshot that grew two times
pub grows_all : (At : Bytes → Type 0) (a b c : FileState) → SnapshotGrows At a b → SnapshotGrows At b c → SnapshotGrows At a c
grows_all At a b c first second = record {
  put = put_all At a.files b.files c.files first.put second.put;
  kept = λ quiet p n held. second.kept (first.calm.stays_quiet quiet) p n (first.kept quiet p n held);
  calm = calm_all a b c first.calm second.calm;
}
