-- When an included file matches.
use Rattle.std.proofs.Common.{◌≡◌, ◌≢◌, ℕ, suc, ◌+◌, ◌<◌, arith, get_or, drop, drop-cons, ◌∷◌, ◌⊎◌, inl, inr, Bool, true, false, ◌&&◌, ◌||◌, nat_eq, List, Option, Result, Ok, Err, IfOk, IsOkAnd, length, refl, sym, ap, ◌∙◌}
use Rattle.std.specs.Prelude.{String}
use Rattle.std.specs.List.{list_all}
use Rattle.std.specs.Option.{option_map}
use Rattle.std.specs.String.{string_bytes}
use Rattle.std.specs.declared.alloc.Global.{Global}
use Rattle.std.proofs.lemmas.Bool.Decides.{Decides-eqb}
use Rattle.cck_digest.specs.declared.error.FileError.{FileError}
use Rattle.cck_digest.specs.declared.error.FileError.TheVariants.{OtherKind}
use Rattle.cck_files.proofs.FileLemmas.{file_of_kind, no_file_of_kind, no_file_without_metadata}
use Rattle.cck_files.specs.FileMap.{FileMap, FileNode, file_at, metadata_at}
use Rattle.cck_path.specs.Path.{Path, components}
use Rattle.cck_path.specs.declared.metadata.FileKind.TheVariants.{File}
use Rattle.cck_path.specs.declared.metadata.Metadata.{Metadata}
use Rattle.cck_include.specs.Include.{Include, include_in, includes_in}
use Rattle.cck_include.specs.declared.include.IncludeEntry.{IncludeEntry}
use Rattle.cck_entry.specs.Matching.{MayMiss, digest_found, file_matches, is_digest, matches, times_accept, times_agree}
use Rattle.cck_include.specs.Recorded.{recorded}
use Rattle.cck_include.specs.Setting.{Setting}

-- an exact result misses no match
pub exact : (is_match right : Bool) (P : Type 0) → is_match ≡ right → MayMiss P is_match right
exact true right P e = sym e
exact false right P e = inl (sym e)

-- the known digest is that of the file
found_known : (s : Setting) (found : Result FileNode FileError) (digest : Option (String Global)) (expected : List ℕ)
    → IsOkAnd found (λ n. option_map string_bytes digest ≡ recorded s n) → is_digest (option_map string_bytes digest) expected ≡ digest_found s expected found
found_known s (Ok n) digest expected h = ap (λ d. is_digest d expected) h
found_known s (Err e) digest expected h = absurd h

pub by_known : (s : Setting) (files : FileMap) (p : Path) (digest : Option (String Global)) (expected : List ℕ)
    → IsOkAnd (file_at files p) (λ n. option_map string_bytes digest ≡ recorded s n) → is_digest (option_map string_bytes digest) expected ≡ digest_found s expected (file_at files p)
by_known s files p digest expected h = found_known s (file_at files p) digest expected h

-- with a fault a match may be missed, also with a fault that came earlier
pub may_miss_more : (P Q : Type 0) (is_match right : Bool) → (P → Q) → MayMiss P is_match right → MayMiss Q is_match right
may_miss_more P Q true right f h = h
may_miss_more P Q false right f (inl h) = inl h
may_miss_more P Q false right f (inr h) = inr (f h)

-- where there is no file, there is no match,
without_file : (s : Setting) (files : FileMap) (i : Include) (e : FileError) → file_at files (components i.path) ≡ Err e → matches s files i ≡ false
unfolding matches
without_file s files i e is = ap (file_matches s i) is

-- or there was a fault where its metadata was not found;
pub unreadable : (s : Setting) (files : FileMap) (i : Include) (P : Type 0) → IfOk (metadata_at files (components i.path)) (λ _. P) → (matches s files i ≡ false) ⊎ P
unreadable s files i P h = go (metadata_at files (components i.path)) refl h
  where
    go : (r : Result Metadata FileError) → metadata_at files (components i.path) ≡ r → IfOk r (λ _. P) → (matches s files i ≡ false) ⊎ P
    go (Ok m) is h = inr h
    go (Err e) is h = inl (without_file s files i e (no_file_without_metadata files (components i.path) e is))

-- a node of another kind does not match,
pub other_kind : (s : Setting) (files : FileMap) (i : Include) (m : Metadata) → metadata_at files (components i.path) ≡ Ok m → (m.kind ≡ File → ⊥) → matches s files i ≡ false
other_kind s files i m is h = without_file s files i OtherKind (no_file_of_kind files (components i.path) m is h)

-- nor does a file of another size;
sizes : (a b : ℕ) → a ≢ b → nat_eq a b ≡ false
sizes a b h = elim (nat_eq a b) as (λ t. nat_eq a b ≡ t → t ≡ false) [ true ↦ λ e. absurd (h ((Decides-eqb a b).0 e)) | false ↦ λ e. refl ] refl

pub other_size : (s : Setting) (files : FileMap) (i : Include) (m : Metadata) → metadata_at files (components i.path) ≡ Ok m → m.kind ≡ File → m.len ≢ i.size → matches s files i ≡ false
unfolding matches
other_size s files i m is kind h =
    let (n, found, len, modified, changed) = file_of_kind files (components i.path) m is kind in
    ap (file_matches s i) found ∙ ap (λ t. t && (times_accept s.config i n || is_digest (recorded s n) i.digest)) (sizes (length n.contents) i.size (λ e. h (sym len ∙ e)))

-- otherwise its times may suffice,
pub by_times : (s : Setting) (files : FileMap) (i : Include) (m : Metadata) → metadata_at files (components i.path) ≡ Ok m → m.kind ≡ File → m.len ≡ i.size
    → (s.config.file_stat_matches && times_agree s.config.use_ctime_for_stat i.modified i.changed m.modified m.changed) ≡ true → matches s files i ≡ true
unfolding matches
by_times s files i m is kind size accept =
    let (n, found, len, modified, changed) = file_of_kind files (components i.path) m is kind in
    let times : times_accept s.config i n ≡ true = rw (modified, changed) accept in
    ap (file_matches s i) found
    ∙ (ap (λ t. t && (times_accept s.config i n || is_digest (recorded s n) i.digest)) ((Decides-eqb (length n.contents) i.size).1 (len ∙ size))
    ∙ ap (λ t. t || is_digest (recorded s n) i.digest) times)

-- and otherwise its recorded digest decides
pub by_digest : (s : Setting) (files : FileMap) (i : Include) (m : Metadata) → metadata_at files (components i.path) ≡ Ok m → m.kind ≡ File → m.len ≡ i.size
    → (s.config.file_stat_matches && times_agree s.config.use_ctime_for_stat i.modified i.changed m.modified m.changed) ≡ false
    → digest_found s i.digest (file_at files (components i.path)) ≡ matches s files i
unfolding matches
by_digest s files i m is kind size accept =
    let (n, found, len, modified, changed) = file_of_kind files (components i.path) m is kind in
    let times : times_accept s.config i n ≡ false = rw (modified, changed) accept in
    ap (digest_found s i.digest) found
    ∙ sym (ap (file_matches s i) found
    ∙ (ap (λ t. t && (times_accept s.config i n || is_digest (recorded s n) i.digest)) ((Decides-eqb (length n.contents) i.size).1 (len ∙ size))
    ∙ ap (λ t. t || is_digest (recorded s n) i.digest) times))

-- the include at this place is the first of those that are left
pub rest_here : (xs : List IncludeEntry) (i : ℕ) (x : IncludeEntry) → i < length xs → x ≡ get_or xs i x → includes_in (drop i xs) ≡ include_in x ∷ includes_in (drop (i + 1) xs)
rest_here xs i x within is =
    let next : suc i ≡ i + 1 = omega arith in
    ap includes_in (drop-cons xs i x within) ∙ (ap (λ z. include_in z ∷ includes_in (drop (suc i) xs)) (sym is) ∙ ap (λ k. include_in x ∷ includes_in (drop k xs)) next)

-- where the first of those that are left matches, the others decide whether all match
pub all_more : (m : Include → Bool) (i : Include) (rest following all : List Include) → rest ≡ i ∷ following → m i ≡ true → list_all m rest ≡ list_all m all → list_all m following ≡ list_all m all
all_more m i rest following all is fits e = sym (ap (list_all m) is ∙ ap (λ b. b && list_all m following) fits) ∙ e

-- where the first of those that are left does not match, not all match; or there was a fault, also an earlier one
pub one_missed : (P Q : Type 0) (m : Include → Bool) (i : Include) (rest following all : List Include)
    → (P → Q) → rest ≡ i ∷ following → MayMiss P false (m i) → list_all m rest ≡ list_all m all → MayMiss Q false (list_all m all)
one_missed P Q m i rest following all f is (inl missed) e = inl (sym e ∙ (ap (list_all m) is ∙ ap (λ b. b && list_all m following) missed))
one_missed P Q m i rest following all f is (inr fault) e = inr (f fault)
