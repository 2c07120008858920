-- The files of a directory.
use Rattle.std.proofs.Common.{◌≡◌, ◌≢◌, ◌<◌, ◌+◌, ℕ, zero, suc, List, [], ◌∷◌, ◌++◌, All, true, not, ◌&&◌, nat_eq, IsTrue, Option, None, Some, String, string_bytes, length, take, drop, refl, sym, ap, ap₂, ◌∙◌, subst, ⊎_elim, arith, append_assoc, length-drop, get_or}
use borrow.Author.Tests.{eqb-false, ne_eqb}
use Rattle.std.proofs.lemmas.Bool.{cases_eq}
use Rattle.std.proofs.lemmas.List.{get_or-drop}
use Rattle.std.specs.declared.alloc.Global.{Global}
use Rattle.std.proofs.lemmas.List.Elements.{All-append, All-push}
use Rattle.std.proofs.lemmas.Bool.{cond_both}
use Rattle.std.specs.Option.{MatchOption, option_map, unwrap_or}
use Rattle.std.specs.Path.{has_no_slash, rfind_below, rsplit_once, slash}
use Rattle.cck_cache_files.specs.Listing.{AddsFilesIn, AreFileNames, IsFileBelow, IsFileIn, IsInShare, path_in}
use Rattle.cck_cache_files.specs.Paths.{key_directory}
use Rattle.cck_cache_files.specs.declared.store_directory.Kind.TheVariants.{Entry, Object}
use Rattle.cck_cache_files.specs.declared.listing.StoredFile.{StoredFile}

-- ---- names

-- no byte is a slash
no_slash : (text : List ℕ) → ((i : ℕ) → i < length text → get_or text i 0 ≢ 47) → has_no_slash text ≡ true
no_slash [] h = refl
no_slash (b ∷ bs) h = ap₂ (λ head rest. not head && rest) (ne_eqb b 47 (h 0 (omega arith))) (no_slash bs (λ i l. h (suc i) (omega arith)))

-- no slash is after this one, or there is none
abbrev NoneAfter : List ℕ → ℕ → Option ℕ → Type 0
NoneAfter text n r = MatchOption r ((i : ℕ) → i < n → get_or text i 0 ≢ 47) (λ k. (i : ℕ) → k < i → i < n → get_or text i 0 ≢ 47)

none_wider : (text : List ℕ) (n : ℕ) (r : Option ℕ) → get_or text n 0 ≢ 47 → NoneAfter text n r → NoneAfter text (suc n) r
none_wider text n None other h = λ i l e. ⊎_elim (λ here. other (ap (λ j. get_or text j 0) (sym here) ∙ e)) (λ below. h i (omega arith) e) (cases_eq i n)
none_wider text n (Some k) other h = λ i a l e. ⊎_elim (λ here. other (ap (λ j. get_or text j 0) (sym here) ∙ e)) (λ below. h i a (omega arith) e) (cases_eq i n)

none_after : (text : List ℕ) (n : ℕ) → NoneAfter text n (rfind_below slash text n)
none_after text zero = λ i l. absurd (omega arith)
none_after text (suc n) =
    cond_both (nat_eq (get_or text n 0) 47) (Some n) (rfind_below slash text n) (NoneAfter text (suc n))
    (λ _ i a l. absurd (omega arith)) (λ e. none_wider text n _ (eqb-false (get_or text n 0) 47 e) (none_after text n))

last_part : (path : List ℕ) (r : Option ℕ) → NoneAfter path (length path) r
    → has_no_slash (unwrap_or (option_map (λ split. split.1) (option_map {T = ℕ} {U = List ℕ × List ℕ} (λ i. (take i path, drop (i + 1) path)) r)) path) ≡ true
last_part path None h = no_slash path h
last_part path (Some k) h =
    no_slash (drop (k + 1) path) (λ i l e. h ((k + 1) + i) (omega arith) (omega (arith, length-drop (k + 1) path)) (sym (get_or-drop (k + 1) path i 0) ∙ e))

-- what follows the last slash of a path, or the whole path
abbrev pub last_of : List ℕ → List ℕ
last_of path = unwrap_or (option_map (λ split. split.1) (rsplit_once slash path)) path

last_has_no_slash : (path : List ℕ) → has_no_slash (last_of path) ≡ true
unfolding rsplit_once
last_has_no_slash path = last_part path (rfind_below slash path (length path)) (none_after path (length path))

-- one more name
pub one_more_name : (old new : List (String Global)) (name : String Global) (path : List ℕ) → AreFileNames old → new ≡ old ++ name ∷ [] → string_bytes name ≡ last_of path → AreFileNames new
one_more_name old new name path all e is =
    let P : List ℕ → Type 0 = λ bytes. IsTrue (has_no_slash bytes) in
    subst AreFileNames (sym e) (All-push (λ s. P (string_bytes s)) old name all (subst P (sym is) (last_has_no_slash path)))

-- one of the names
pub name_at : (names : List (String Global)) (i : ℕ) (name : String Global) → AreFileNames names → i < length names → name ≡ get_or names i name → IsTrue (has_no_slash (string_bytes name))
name_at names i name all l e = let P : String Global → Type 0 = λ s. IsTrue (has_no_slash (string_bytes s)) in subst P (sym e) (all i name l)

-- ---- files

-- one more file was added
pub one_added : (directory : List ℕ) (first old new : List StoredFile) (file : StoredFile) → AddsFilesIn directory first old → new ≡ old ++ file ∷ [] → IsFileIn directory file
    → AddsFilesIn directory first new
one_added directory first old new file h e is =
    (h.0 ++ file ∷ [], e ∙ ap (λ files. files ++ file ∷ []) h.1 ∙ append_assoc first h.0 (file ∷ []), All-push (IsFileIn directory) h.0 file h.2 is)

-- all files are among those that were added to none
pub all_added : (directory : List ℕ) (new : List StoredFile) → AddsFilesIn directory [] new → All (IsFileIn directory) new
all_added directory new h = let P : List StoredFile → Type 0 = λ files. All (IsFileIn directory) files in subst P (sym h.1) h.2

-- the files of a directory of this one were added
pub added_below : (directory path name : List ℕ) (old new : List StoredFile) → path ≡ path_in directory name → All (IsFileBelow directory) old → AddsFilesIn path old new
    → IsTrue (has_no_slash name) → All (IsFileBelow directory) new
added_below directory path name old new e all h named =
    let P : List StoredFile → Type 0 = λ files. All (IsFileBelow directory) files in
    subst P (sym h.1) (All-append (IsFileBelow directory) old h.0 all
    (λ k d l. let Q : List ℕ → Type 0 = λ p. IsFileIn p (get_or h.0 k d) in (name, named, subst Q e (h.2 k d l))))

-- the files of the two directories of a share were added to none
pub share_added : (directory key : List ℕ) (entries all : List StoredFile) → AddsFilesIn (key_directory directory Entry key) [] entries
    → AddsFilesIn (key_directory directory Object key) entries all → All (IsInShare directory key) all
share_added directory key entries all first second =
    let P : List StoredFile → Type 0 = λ files. All (IsInShare directory key) files in
    let of_entries : All (IsInShare directory key) entries = λ k d l. (Entry, all_added (key_directory directory Entry key) entries first k d l) in
    let of_objects : All (IsInShare directory key) second.0 = λ k d l. (Object, second.2 k d l) in
    subst P (sym second.1) (All-append (IsInShare directory key) entries second.0 of_entries of_objects)
