-- What a look-up has found of files.
use Rattle.std.proofs.Common.{◌≡◌, ◌⊎◌, ◌<◌, ◌≤◌, ◌∙◌, ℕ, inl, inr, arith, List, [], ◌∷◌, ◌++◌, length, get_or, set, All, Bool, true, false, Option, Some, None, Result, Ok, Err, IfOk, cond, refl, sym, ap, subst}
use Rattle.std.specs.FinMap.{FinMap, get, get-insert, insert}
use Rattle.std.specs.Ordering.{is_eq}
use Rattle.std.specs.Cmp.{tied_itself}
use Rattle.std.specs.declared.cmp.Ordering.{Ordering}
use Rattle.std.specs.declared.cmp.Ordering.TheVariants.{Less, Equal, Greater}
use Rattle.std.proofs.lemmas.Bool.{cases_eq, cases_lt}
use Rattle.std.proofs.lemmas.List.{get_or-set_other, get_or-set_same, get_or_append_left, get_or_default, get_or_push, length-append, length-set}
use Rattle.std.proofs.lemmas.List.Elements.{All-get_or, All-nil, All-push, All-same, All-set}
use Rattle.cck_digest.specs.declared.error.FileError.{FileError}
use Rattle.cck_digest.specs.declared.error.FileError.TheVariants.{NotFound, OtherKind, Fault, Memory}
use Rattle.cck_files.specs.Calls.{IsError}
use Rattle.cck_files.specs.FileMap.{FileMap, metadata_at}
use Rattle.cck_path.specs.Path.{Path, components, path_cmp, path_cmp_total, path_cmp-IsAntisymmetric}
use Rattle.cck_path.specs.declared.metadata.Metadata.{Metadata}
use Rattle.cck_entry.specs.Known.{AreFound, IsKnownAt, IsRight, known_path}
use Rattle.cck_include.specs.Setting.{Setting}
use Rattle.cck_entry.specs.declared.known.KnownFile.{KnownFile}

-- at first nothing is known
pub none_known : (s : Setting) (files : FileMap) (ks : List KnownFile) (places : FinMap path_cmp ℕ) → ks ≡ [] → All (IsRight s files) ks × AreFound ks places
none_known s files ks places none = (
  All-same (IsRight s files) ks [] none (All-nil (IsRight s files)),
  λ p i at. absurd (omega (arith, at.in_range, ap length none)),
)

-- what was found is still found after another path got a place,
pub kept_found : (ks : List KnownFile) (old new : FinMap path_cmp ℕ) (p : Path) (n : ℕ) → new ≡ insert old p n → ((i : ℕ) → IsKnownAt p ks i → ⊥) → AreFound ks old → AreFound ks new
kept_found ks old new p n set none found q i at = ap (λ (m : FinMap path_cmp ℕ). get m q) set ∙ get-insert path_cmp_total old p n q ∙ go (path_cmp q p) refl
  where
    go : (o : Ordering) → path_cmp q p ≡ o → cond (is_eq o) (Some n) (get old q) ≡ Some i
    go Less is = found q i at
    go Greater is = found q i at
    go Equal is = absurd (none i (subst (λ x. IsKnownAt x ks i) (path_cmp-IsAntisymmetric q p is) at))

-- a path is found at the place that it got
got : (old new : FinMap path_cmp ℕ) (p : Path) (n : ℕ) → new ≡ insert old p n → get new p ≡ Some n
got old new p n set = ap (λ (m : FinMap path_cmp ℕ). get m p) set ∙ get-insert path_cmp_total old p n p ∙ ap (λ o. cond (is_eq o) (Some n) (get old p)) (tied_itself path_cmp_total p)

-- the file at the last place
pub last_place : (ks : List KnownFile) (k : KnownFile) → IsKnownAt (known_path k) (ks ++ k ∷ []) (length ks)
last_place ks k = record {
  in_range = omega (arith, length-append ks (k ∷ []));
  has_path = λ d. ap known_path (get_or_push ks k d (length ks) refl);
}

-- and also with the file of that path added after the others
pub more_found : (ks : List KnownFile) (k : KnownFile) (old new : FinMap path_cmp ℕ) → new ≡ insert old (known_path k) (length ks) → ((i : ℕ) → IsKnownAt (known_path k) ks i → ⊥)
    → AreFound ks old → AreFound (ks ++ k ∷ []) new
more_found ks k old new set none found q i at = go (cases_lt i (length ks))
  where
    go : (i < length ks) ⊎ (length ks ≤ i) → get new q ≡ Some i
    go (inl before) =
        let there : IsKnownAt q ks i = record { in_range = before; has_path = λ d. ap known_path (sym (get_or_append_left ks (k ∷ []) d i before)) ∙ at.has_path d } in
        kept_found ks old new (known_path k) (length ks) set none found q i there
    go (inr following) =
        let last : i ≡ length ks = omega (arith, following, at.in_range, length-append ks (k ∷ [])) in
        let same : known_path k ≡ q = ap known_path (sym (get_or_push ks k k i (sym last))) ∙ at.has_path k in
        ap (get new) (sym same) ∙ got old new (known_path k) (length ks) set ∙ ap (λ (n : ℕ). Some n) (sym last)

-- so another file is known
pub known_more : (s : Setting) (files : FileMap) (ks more : List KnownFile) (k : KnownFile) (old new : FinMap path_cmp ℕ) (p : Path) (n : ℕ)
    → more ≡ ks ++ k ∷ [] → known_path k ≡ p → k.digest ≡ None → n ≡ length ks → new ≡ insert old p n → metadata_at files p ≡ Ok k.metadata → ((i : ℕ) → IsKnownAt p ks i → ⊥)
    → All (IsRight s files) ks × AreFound ks old → All (IsRight s files) more × AreFound more new
known_more s files ks more k old new p n is path digest count set there none right =
    let own : IsRight s files k = record { metadata = ap (metadata_at files) path ∙ there; digest = rw digest tt } in
    let place : new ≡ insert old (known_path k) (length ks) = set ∙ (ap (insert old p) count ∙ ap (λ q. insert old q (length ks)) (sym path)) in
    rw is (All-push (IsRight s files) ks k right.0 own, more_found ks k old new place (λ i at. none i (subst (λ q. IsKnownAt q ks i) path at)) right.1)

-- a place that is found is the one that was searched for,
pub at_found : (p : Path) (ks : List KnownFile) (a i : ℕ) → Some a ≡ Some i → IsKnownAt p ks i → IsKnownAt p ks a
at_found p ks a i e at =
    let same : i ≡ a = cc in
    subst (IsKnownAt p ks) same at

-- and where none is found, there is none
pub never : {P : Type 0} → ◌≡◌ {A = Bool} false true → P
never e = absurd cc

pub none_found : {P : Type 0} (i : ℕ) → ◌≡◌ {A = Option ℕ} None (Some i) → P
none_found i e = absurd cc

-- what is known at a place is right, and is of its path,
pub right_there : (s : Setting) (files : FileMap) (ks : List KnownFile) (p : Path) (i : ℕ) (k : KnownFile) → k ≡ get_or ks i k → IsKnownAt p ks i → All (IsRight s files) ks → IsRight s files k
right_there s files ks p i k is at right = subst (IsRight s files) (sym is) (All-get_or (IsRight s files) ks i k at.in_range right)

pub path_there : (ks : List KnownFile) (p : Path) (i : ℕ) (k : KnownFile) → k ≡ get_or ks i k → IsKnownAt p ks i → known_path k ≡ p
path_there ks p i k is at = ap known_path is ∙ at.has_path k

pub metadata_known : (s : Setting) (files : FileMap) (k : KnownFile) (p : Path) → IsRight s files k → known_path k ≡ p → metadata_at files p ≡ Ok k.metadata
metadata_known s files k p right path = ap (metadata_at files) (sym path) ∙ right.metadata

-- and stays so where more becomes known of one file
place_before : (ks : List KnownFile) (i : ℕ) (k now : KnownFile) (q : Path) (j : ℕ) → k ≡ get_or ks i k → known_path now ≡ known_path k → IsKnownAt q (set ks i now) j → IsKnownAt q ks j
place_before ks i k now q j is path at =
    let within : j < length ks = omega (arith, at.in_range, length-set ks i now) in
    record { in_range = within; has_path = λ d. go d within (cases_eq j i) }
  where
    go : (d : KnownFile) → j < length ks → (j ≡ i) ⊎ (j ≡ i → ⊥) → known_path (get_or ks j d) ≡ q
    go d within (inl same) =
        let own : known_path (get_or (set ks i now) j d) ≡ known_path now = ap (λ n. known_path (get_or (set ks i now) n d)) same ∙ ap known_path (get_or-set_same ks i now d (subst (λ n. n < length ks) same within)) in
        ap known_path (get_or_default ks j d k within) ∙ (ap (λ n. known_path (get_or ks n k)) same ∙ (sym (ap known_path is) ∙ (sym path ∙ (sym own ∙ at.has_path d))))
    go d within (inr other) = ap known_path (sym (get_or-set_other ks i j now d other)) ∙ at.has_path d

pub known_set : (s : Setting) (files : FileMap) (ks : List KnownFile) (places : FinMap path_cmp ℕ) (i : ℕ) (k now : KnownFile) → k ≡ get_or ks i k → now.path ≡ k.path
    → IsRight s files now → All (IsRight s files) ks × AreFound ks places → All (IsRight s files) (set ks i now) × AreFound (set ks i now) places
known_set s files ks places i k now is path own right = (
  All-set (IsRight s files) ks i now own right.0,
  λ q j at. right.1 q j (place_before ks i k now q j is (ap (λ x. components x.items) path) at),
)

-- where a call for metadata failed although there is a node, there was a fault
pub refused : (r : Result Metadata FileError) (P : Type 0) (e : FileError) → IsError r P e → IfOk r (λ _. P)
refused (Ok m) P NotFound h = absurd cc
refused (Ok m) P OtherKind h = absurd cc
refused (Ok m) P Fault h = h
refused (Ok m) P Memory h = absurd h
refused (Err x) P e h = tt
