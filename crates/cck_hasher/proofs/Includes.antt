-- What is recorded of a call's files, and the entry of one result.
use Rattle.std.proofs.Common.{◌≡◌, Bool, true, false, ◌&&◌, ◌||◌, List, [], ◌∷◌, length, refl, sym, ap, ◌∙◌, Option, Some, None, Result, Ok, Err}
use Rattle.std.proofs.lemmas.Bool.{eq-eqb, and_from, and_parts, and_left, or_right}
use Rattle.std.proofs.lemmas.Slice.Eq.{bytes_eq-Decides}
use Rattle.std.specs.Cmp.Lexicographic.{nat_list_cmp_total}
use Rattle.std.specs.FinMap.{empty, entries, entries-insert, get, insert}
use Rattle.std.specs.FinMap.Entries.{put}
use Rattle.std.specs.Option.{option_and}
use Rattle.std.specs.Prelude.{IfSome, MatchBool, nat_eq}
use Rattle.std.specs.Str.{bytes_eq}
use Rattle.std.proofs.lemmas.Option.{same_Some}
use Rattle.cck_digest.specs.declared.error.FileError.{FileError}
use Rattle.cck_entry.proofs.EntryLemmas.{entries_of_empty}
use Rattle.cck_entry.proofs.LawLemmas.{added_to_all_or_nothing}
use Rattle.cck_entry.specs.Entry.{added, is_over}
use Rattle.cck_files.proofs.FileLemmas.{kind_of_file}
use Rattle.cck_files.specs.FileMap.{FileMap, FileNode, contents_of_kind, file_at, file_in, metadata_at, metadata_in, metadata_of}
use Rattle.cck_include.specs.Gathered.{Digested, are_before, gathered_include, include_of, include_of_metadata, is_before, kept}
use Rattle.cck_include.specs.Include.{Include}
use Rattle.cck_entry.specs.Matching.{file_matches, is_digest, matches, times_accept}
use Rattle.cck_include.specs.Recorded.{recorded}
use Rattle.cck_include.specs.Setting.{Setting}
use Rattle.cck_path.specs.Bytes.{Bytes}
use Rattle.cck_path.proofs.NormalLemmas.{components-normal}
use Rattle.cck_path.proofs.JoinLemmas.{components-join}
use Rattle.cck_path.specs.Path.{Path, components, joined, normal}
use Rattle.cck_path.specs.Text.{join_path, path_text}
use Rattle.cck_path.specs.TextOrder.{text_cmp}
use Rattle.cck_path.specs.Timestamp.{Moment}
use Rattle.cck_path.specs.declared.metadata.FileKind.{FileKind}
use Rattle.cck_path.specs.declared.metadata.FileKind.TheVariants.{File, Folder, Other}

pub same_ok : {A E : Type 0} (x y : A) → ◌≡◌ {A = Result A E} (Ok x) (Ok y) → x ≡ y
same_ok x y e = cc

-- ---- files

-- the components of a written path that a name means are that path
pub components-meant : (cwd name : Bytes) → components (path_text (normal (joined (components cwd) (components name)))) ≡ normal (joined (components cwd) (components name))
components-meant cwd name =
    ap (λ p. components (path_text (normal p))) (sym (components-join cwd name)) ∙ components-normal (join_path cwd name) ∙ ap normal (components-join cwd name)

-- the metadata of a regular file
days_and_seconds_of : (o : Option FileNode) (n : FileNode) → file_in o ≡ Ok n → metadata_in o ≡ Ok (metadata_of n) × (n.kind ≡ File)
days_and_seconds_of None n e = absurd cc
days_and_seconds_of (Some m) n e = let (same, kind) = kind_of_file m n m.kind refl e in (ap (λ v. Ok (metadata_of v)) same, kind)

size_of : (n : FileNode) (k : FileKind) → n.kind ≡ k → k ≡ File → (metadata_of n).len ≡ length n.contents
size_of n File is e = ap (λ k. length (contents_of_kind k n.contents)) is
size_of n Folder is e = absurd cc
size_of n Other is e = absurd cc

-- what is recorded of a regular file
pub include_here : (files : FileMap) (moment : Moment) (d : Digested) (p : Path) (n : FileNode) → components (d.1) ≡ p → file_at files p ≡ Ok n
    → (gathered_include files moment d ≡ Some (include_of moment d (metadata_of n))) × ((include_of moment d (metadata_of n)).size ≡ length n.contents)
unfolding file_at metadata_at
include_here files moment d p n is file =
    let (said, kind) = days_and_seconds_of (get files.nodes p) n file in
    (ap (λ q. include_of_metadata moment d (metadata_in (get files.nodes q))) is ∙ ap (include_of_metadata moment d) said, size_of n n.kind refl kind)

-- the times of a file that has none after a moment are both recorded, if it has both
module _ (moment : Moment) where
  abbrev IsEarlier : Option Moment → Type 0
  IsEarlier time = IfSome time (λ t. is_before t moment ≡ true)

  pub kept_modified : (m c : Option Moment) → IsEarlier m → IsEarlier c → kept (are_before m c moment) m ≡ option_and c m
  kept_modified None None old older = refl
  kept_modified None (Some c) old older = refl
  kept_modified (Some m) None old older = refl
  kept_modified (Some m) (Some c) old older = ap (λ b. kept b (Some m)) (and_from (is_before m moment) (is_before c moment) old older)

  pub kept_changed : (m c : Option Moment) → IsEarlier m → IsEarlier c → kept (are_before m c moment) c ≡ option_and m c
  kept_changed None None old older = refl
  kept_changed None (Some c) old older = refl
  kept_changed (Some m) None old older = refl
  kept_changed (Some m) (Some c) old older = ap (λ b. kept b (Some c)) (and_from (is_before m moment) (is_before c moment) old older)

-- ---- matches

digest_is : (o : Option Bytes) (digest : Bytes) → is_digest o digest ≡ true → o ≡ Some digest
digest_is None digest e = absurd cc
digest_is (Some d) digest e = ap Some ((bytes_eq-Decides d digest).0 e)

-- a file that matches by its digest is regular and has this recorded digest
matches_known : (s : Setting) (i : Include) (r : Result FileNode FileError) → s.config.file_stat_matches ≡ false → file_matches s i r ≡ true
    → (o : FileNode) × (r ≡ Ok o) × (recorded s o ≡ Some i.digest)
matches_known s i (Err e) off h = absurd cc
matches_known s i (Ok o) off h =
    let parts = and_parts (nat_eq (length o.contents) i.size) _ h in
    (o, refl, digest_is (recorded s o) i.digest (ap (λ b. b || is_digest (recorded s o) i.digest) (sym (and_left s.config.file_stat_matches _ off)) ∙ parts.1))

pub match_known : (s : Setting) (files : FileMap) (i : Include) (p : Path) → s.config.file_stat_matches ≡ false → components i.path ≡ p → matches s files i ≡ true
    → (o : FileNode) × (file_at files p ≡ Ok o) × (recorded s o ≡ Some i.digest)
unfolding matches
match_known s files i p off is h =
    let (o, file, digest) = matches_known s i (file_at files (components i.path)) off h in
    (o, ap (file_at files) (sym is) ∙ file, digest)

is_the_digest : (o : Option Bytes) (digest : Bytes) → o ≡ Some digest → is_digest o digest ≡ true
is_the_digest None digest e = absurd cc
is_the_digest (Some d) digest e = ap (λ v. bytes_eq v digest) (same_Some d digest e) ∙ (bytes_eq-Decides digest digest).1 refl

-- a regular file of the size and of the recorded digest matches
pub match_by_digest : (s : Setting) (files : FileMap) (i : Include) (p : Path) (o : FileNode) → components i.path ≡ p → file_at files p ≡ Ok o
    → length o.contents ≡ i.size → recorded s o ≡ Some i.digest → matches s files i ≡ true
unfolding matches
match_by_digest s files i p o is file size digest =
    ap (file_matches s i) (ap (file_at files) is ∙ file)
    ∙ ap (λ b. b && (times_accept s.config i o || is_digest (recorded s o) i.digest)) (eq-eqb (length o.contents) i.size size)
    ∙ or_right (times_accept s.config i o) _ (is_the_digest (recorded s o) i.digest digest)

-- ---- the entry of one result

either_way : {X : Type 0} (b : Bool) (x y z : X) → y ≡ z → MatchBool b (x ≡ y) (x ≡ z) → x ≡ y
either_way true x y z e h = h
either_way false x y z e h = h ∙ sym e

-- to the empty entry a result is added whatever its size
pub added_alone : (key : Bytes) (includes : List Include) → added empty key includes ≡ insert empty key includes
added_alone key includes =
    either_way (is_over empty (length includes)) (added empty key includes) (insert empty key includes) (insert empty key includes) refl (added_to_all_or_nothing empty key includes)

pub entries-alone : (key : Bytes) (includes : List Include) → entries {R = text_cmp} (insert empty key includes) ≡ (key, includes) ∷ []
entries-alone key includes = entries-insert nat_list_cmp_total empty key includes ∙ ap (put text_cmp key includes) entries_of_empty
