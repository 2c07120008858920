-- Recording one file after another.
use Rattle.std.proofs.Common.{◌≡◌, ℕ, suc, ◌<◌, ◌+◌, List, [], ◌∷◌, ◌++◌, Option, Some, None, Err, length, map, take, drop, get_or, refl, sym, ap, subst, ◌∙◌, drop-cons}
use Rattle.std.proofs.lemmas.List.{map_push, map-append, take_more, take-append-drop}
use Rattle.std.specs.Prelude.{String}
use Rattle.std.specs.Global.{Vec}
use Rattle.std.specs.String.{string_bytes}
use Rattle.std.specs.declared.alloc.Global.{Global}
use Rattle.std.specs.FinMap.{get}
use Rattle.std.specs.Option.{option_map}
use Rattle.cck_digest.specs.declared.entry_error.Error.{Error}
use Rattle.cck_digest.specs.declared.error.FileError.{FileError}
use Rattle.cck_digest.specs.declared.error.FileError.TheVariants.{NotFound, OtherKind, Fault, Memory}
use Rattle.cck_files.proofs.FileLemmas.{no_other_kind}
use Rattle.cck_files.specs.Calls.{IsError}
use Rattle.cck_files.specs.FileMap.{FileMap, metadata_at}
use Rattle.cck_path.specs.Path.{Path, components}
use Rattle.cck_path.specs.Timestamp.{Moment}
use Rattle.cck_include.proofs.ErrorLemmas.{by_file_error}
use Rattle.cck_include.specs.Gathered.{Digested, all_of, digested_in, gathered, gathered_include, include_of_metadata}
use Rattle.cck_include.specs.Include.{Include}
use Rattle.cck_include.specs.Errors.{IsMissing, IsMissingNode, io_error}

all_of-push : {A : Type 0} (os : List (Option A)) (xs : List A) (x : A) → all_of os ≡ Some xs → all_of (os ++ Some x ∷ []) ≡ Some (xs ++ x ∷ [])
all_of-push {A = A} [] xs x e = let none : [] ≡ xs = cc in subst (λ ys. ◌≡◌ {A = Option (List A)} (Some (x ∷ [])) (Some (ys ++ x ∷ []))) none refl
all_of-push (None ∷ os) xs x e = cc
all_of-push {A = A} (Some y ∷ os) xs x e = go (all_of os) refl e (all_of-push os)
  where
    go : (rest : Option (List A)) → all_of os ≡ rest → option_map (λ ys. y ∷ ys) rest ≡ Some xs
        → ((zs : List A) (z : A) → all_of os ≡ Some zs → all_of (os ++ Some z ∷ []) ≡ Some (zs ++ z ∷ []))
        → all_of ((Some y ∷ os) ++ Some x ∷ []) ≡ Some (xs ++ x ∷ [])
    go None is f more = cc
    go (Some ys) is f more =
        let front : y ∷ ys ≡ xs = cc in
        ap (option_map (λ zs. y ∷ zs)) (more ys x is) ∙ ap (λ zs. Some (zs ++ x ∷ [])) front

all_of-missing : {A : Type 0} (os rest : List (Option A)) → all_of (os ++ None ∷ rest) ≡ None
all_of-missing [] rest = refl
all_of-missing (None ∷ os) rest = refl
all_of-missing (Some y ∷ os) rest = ap (option_map (λ ys. y ∷ ys)) (all_of-missing os rest)

abbrev plain : String Global × Vec ℕ → Digested
plain p = (string_bytes p.0, p.1.items)

missing_node_by : (Missing Missing' P Q : Type 0) (e : FileError) → (Missing → Missing') → (P → Q) → IsMissingNode Missing P e → IsMissingNode Missing' Q e
missing_node_by M N P Q NotFound f g h = f h
missing_node_by M N P Q OtherKind f g h = h
missing_node_by M N P Q Fault f g h = g h
missing_node_by M N P Q Memory f g h = h

missing_by : (Missing Missing' P Q : Type 0) (e : Error) → (Missing → Missing') → (P → Q) → IsMissing Missing P e → IsMissing Missing' Q e
missing_by M N P Q e f g h = by_file_error (IsMissingNode M P) (IsMissing N Q) e h tt (λ x at. missing_node_by M N P Q x f g at)

no_other_at : (files : FileMap) (p : Path) → metadata_at files p ≡ Err OtherKind → ⊥
unfolding metadata_at
no_other_at files p e = no_other_kind (get files.nodes p) e

-- a file without metadata is missing
pub missing_one : (files : FileMap) (moment : Moment) (d : Digested) (P : Type 0) (e : FileError)
    → IsError (metadata_at files (components (d.1))) P e → IsMissing (gathered_include files moment d ≡ None) P (io_error e)
missing_one files moment d P NotFound r = ap (include_of_metadata moment d) r
missing_one files moment d P OtherKind r = absurd (no_other_at files (components (d.1)) r)
missing_one files moment d P Fault r = r
missing_one files moment d P Memory r = absurd r

-- another file after those so far
pub gathered-push : (files : FileMap) (moment : Moment) (ps : List (String Global × Vec ℕ)) (i : ℕ) (p : String Global × Vec ℕ) (xs : List Include) (x : Include)
    → i < length ps → p ≡ get_or ps i p → gathered files moment (digested_in (take i ps)) ≡ Some xs
    → gathered_include files moment (string_bytes p.0, p.1.items) ≡ Some x → gathered files moment (digested_in (take (i + 1) ps)) ≡ Some (xs ++ x ∷ [])
unfolding gathered
gathered-push files moment ps i p xs x lt at so_far e =
    ap (λ l. all_of (map (gathered_include files moment) (digested_in l))) (take_more ps i p lt ∙ ap (λ q. take i ps ++ q ∷ []) (sym at))
    ∙ (ap (λ l. all_of (map (gathered_include files moment) l)) (map_push plain (take i ps) p)
    ∙ (ap all_of (map_push (gathered_include files moment) (digested_in (take i ps)) (plain p) ∙ ap (λ o. map (gathered_include files moment) (digested_in (take i ps)) ++ o ∷ []) e)
    ∙ all_of-push (map (gathered_include files moment) (digested_in (take i ps))) xs x so_far))

-- one of the files is missing
pub gathered-missing : (files : FileMap) (moment : Moment) (ps : List (String Global × Vec ℕ)) (i : ℕ) (p : String Global × Vec ℕ)
    → i < length ps → p ≡ get_or ps i p → gathered_include files moment (string_bytes p.0, p.1.items) ≡ None → gathered files moment (digested_in ps) ≡ None
unfolding gathered
gathered-missing files moment ps i p lt at e =
    ap (λ l. all_of (map (gathered_include files moment) (digested_in l))) (sym (take-append-drop i ps) ∙ ap (λ l. take i ps ++ l) (drop-cons ps i p lt ∙ ap (λ q. q ∷ drop (suc i) ps) (sym at)))
    ∙ (ap (λ l. all_of (map (gathered_include files moment) l)) (map-append plain (take i ps) (p ∷ drop (suc i) ps))
    ∙ (ap all_of (map-append (gathered_include files moment) (digested_in (take i ps)) (plain p ∷ digested_in (drop (suc i) ps)) ∙ ap (λ o. map (gathered_include files moment) (digested_in (take i ps)) ++ o ∷ map (gathered_include files moment) (digested_in (drop (suc i) ps))) e)
    ∙ all_of-missing (map (gathered_include files moment) (digested_in (take i ps))) (map (gathered_include files moment) (digested_in (drop (suc i) ps)))))

pub missing_all : (files : FileMap) (moment : Moment) (ps : List (String Global × Vec ℕ)) (i : ℕ) (p : String Global × Vec ℕ) (P Q : Type 0) (e : Error)
    → i < length ps → p ≡ get_or ps i p → (P → Q) → IsMissing (gathered_include files moment (string_bytes p.0, p.1.items) ≡ None) P e
    → IsMissing (gathered files moment (digested_in ps) ≡ None) Q e
missing_all files moment ps i p P Q e lt at f h = missing_by _ _ P Q e (gathered-missing files moment ps i p lt at) f h
