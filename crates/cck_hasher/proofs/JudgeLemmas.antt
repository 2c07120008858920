-- How a path is judged, by its metadata and its recorded digest.
use Rattle.std.proofs.Common.{◌≡◌, ◌||◌, ◌⊎◌, inl, inr, ℕ, List, Bool, true, false, if◌then◌else◌, Option, Some, None, Result, Ok, Err, IsOkAnd, refl, sym, ap, subst, ◌∙◌}
use Rattle.std.specs.FinMap.{get}
use Rattle.cck_digest.specs.declared.error.FileError.{FileError}
use Rattle.cck_digest.specs.declared.error.FileError.TheVariants.{NotFound, OtherKind, Fault, Memory}
use Rattle.cck_digest.specs.declared.error.UtilError.TheVariants as util
use Rattle.cck_files.specs.Calls.{IsError}
use Rattle.cck_files.specs.FileMap.{FileMap, FileNode, file_at, file_if, file_in, metadata_at, metadata_in, metadata_of}
use Rattle.cck_include.proofs.ErrorLemmas.{by_file_error}
use Rattle.cck_include.specs.Recorded.{recorded}
use Rattle.cck_include.specs.Setting.{Setting}
use Rattle.cck_include.specs.Errors.{IsIoError}
use Rattle.cck_path.specs.Path.{Path}
use Rattle.cck_path.specs.declared.metadata.FileKind.TheVariants as kind
use Rattle.cck_path.specs.declared.metadata.Metadata.{Metadata}
use Rattle.cck_digest.specs.declared.entry_error.Error.{Error}
use Rattle.cck_digest.specs.declared.entry_error.Error.TheVariants as error
use Rattle.cck_hasher.specs.Judgement.{Folder, Bad, IsJudged, digest_judgement, file_judgement, is_late, judged_unread, kind_judgement, node_judgement, judgement_at}

-- a path with no node is bad
bad_in : (s : Setting) (o : Option FileNode) (e : FileError) → metadata_in o ≡ Err e → node_judgement s o ≡ Bad
bad_in s None e is = refl
bad_in s (Some n) e is = cc

bad_at : (s : Setting) (files : FileMap) (p : Path) (e : FileError) → metadata_at files p ≡ Err e → judgement_at s files p ≡ Bad
unfolding metadata_at judgement_at
bad_at s files p e is = bad_in s (get files.nodes p) e is

pub no_metadata : (s : Setting) (files : FileMap) (p : Path) (P : Type 0) (e : FileError) → IsError (metadata_at files p) P e → (judgement_at s files p ≡ Bad) ⊎ P
no_metadata s files p P NotFound r = inl (bad_at s files p NotFound r)
no_metadata s files p P OtherKind r = inl (bad_at s files p OtherKind r)
no_metadata s files p P Fault r = inr r
no_metadata s files p P Memory r = absurd r

-- the node that metadata are of
node_in : (o : Option FileNode) (m : Metadata) → metadata_in o ≡ Ok m → (n : FileNode) × (o ≡ Some n) × (metadata_of n ≡ m)
node_in None m e = cc
node_in (Some n) m e = (n, refl, cc)

module _ (s : Setting) (files : FileMap) (p : Path) (m : Metadata) (is : metadata_at files p ≡ Ok m) where
  node_at : (n : FileNode) × (get files.nodes p ≡ Some n) × (metadata_of n ≡ m)
  unfolding metadata_at
  node_at = node_in (get files.nodes p) m is

  pub folder_at : m.kind ≡ kind.Folder → judgement_at s files p ≡ Folder
  unfolding judgement_at
  folder_at k = ap (node_judgement s) node_at.1 ∙ ap (kind_judgement s node_at.0) (ap (λ (x : Metadata). x.kind) node_at.2 ∙ k)

  pub other_at : m.kind ≡ kind.Other → judgement_at s files p ≡ Bad
  unfolding judgement_at
  other_at k = ap (node_judgement s) node_at.1 ∙ ap (kind_judgement s node_at.0) (ap (λ (x : Metadata). x.kind) node_at.2 ∙ k)

  module _ (k : m.kind ≡ kind.File) where
    by_file : judgement_at s files p ≡ file_judgement s node_at.0
    unfolding judgement_at
    by_file = ap (node_judgement s) node_at.1 ∙ ap (kind_judgement s node_at.0) (ap (λ (x : Metadata). x.kind) node_at.2 ∙ k)

    by_times : (b : Bool) → (is_late s.moment m.modified || is_late s.moment m.changed) ≡ b → file_judgement s node_at.0 ≡ (if b then Bad else digest_judgement (recorded s node_at.0))
    by_times b h = ap (λ t. if t then Bad else digest_judgement (recorded s node_at.0)) (ap (λ (x : Metadata). is_late s.moment x.modified || is_late s.moment x.changed) node_at.2 ∙ h)

    found : file_at files p ≡ Ok node_at.0
    unfolding file_at
    found = ap file_in node_at.1 ∙ ap (file_if node_at.0) (ap (λ (x : Metadata). x.kind) node_at.2 ∙ k)

    pub late_at : true ≡ (is_late s.moment m.modified || is_late s.moment m.changed) → judgement_at s files p ≡ Bad
    late_at h = by_file ∙ by_times true (sym h)

    pub digest_at : false ≡ (is_late s.moment m.modified || is_late s.moment m.changed) → (digest : Option (List ℕ)) → IsOkAnd (file_at files p) (λ file. digest ≡ recorded s file) → judgement_at s files p ≡ digest_judgement digest
    digest_at h digest r =
        let own : digest ≡ recorded s node_at.0 = subst (λ f. IsOkAnd f (λ file. digest ≡ recorded s file)) found r in
        by_file ∙ by_times false (sym h) ∙ ap digest_judgement (sym own)

    readable : (e : FileError) → file_at files p ≡ Err e → ⊥
    readable e h = let bad : ◌≡◌ {A = Result FileNode FileError} (Ok node_at.0) (Err e) = sym found ∙ h in cc

    -- reading a regular file fails only for a fault or lack of memory
    unread_node : (P Q : Type 0) (e : FileError) → (P → Q) → IsError (file_at files p) P e → IsJudged (judgement_at s files p) Q (judged_unread (error.Io (util.File e)))
    unread_node P Q NotFound f r = absurd (readable NotFound r)
    unread_node P Q OtherKind f r = absurd (readable OtherKind r)
    unread_node P Q Fault f r = inr (f r)
    unread_node P Q Memory f r = absurd r

    pub unread_at : (P Q : Type 0) (e : Error) → (P → Q) → IsIoError (file_at files p) P e → IsJudged (judgement_at s files p) Q (judged_unread e)
    unread_at P Q e f r = by_file_error (IsError (file_at files p) P) (λ e. IsJudged (judgement_at s files p) Q (judged_unread e)) e r tt (λ x at. unread_node P Q x f at)
