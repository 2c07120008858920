-- What is hashed for a regular file and for a directory.
use Rattle.std.proofs.Common.{◌≡◌, ◌≢◌, ℕ, List, [], ◌∷◌, ◌++◌, Bool, true, false, ◌||◌, cond, Option, Some, None, Ok, refl, ◌∙◌, ap, append-nil}
use Rattle.std.specs.Prelude.{flat_map, is_some}
use Rattle.std.specs.List.{cons_option, list_any}
use Rattle.std.specs.FinMap.{entries, get}
use Rattle.cck_digest.specs.declared.error.FileError.TheVariants.{NotFound, OtherKind, Fault, Memory}
use Rattle.cck_digest.specs.declared.error.UtilError.{UtilError}
use Rattle.cck_digest.specs.declared.error.UtilError.TheVariants as util
use Rattle.cck_path.specs.Path.{Path}
use Rattle.cck_path.specs.declared.metadata.FileKind.{FileKind}
use Rattle.cck_path.specs.declared.metadata.FileKind.TheVariants.{File, Folder, Other}
use Rattle.cck_files.specs.FileMap.{FileMap, FileNode, Nodes, contents_at, contents_if, contents_in, folder_at, folder_if, folder_in, exists_at}
use Rattle.cck_files.specs.FolderText.{following, digest_material, if_reached, is_folder_kind, is_other, is_reached, is_too_deep, nodes_material, material_of, opening, piece_of, reached, relative_text, node_and_reached, whole_part}
use Rattle.cck_files.specs.Laws.{named_piece, named_piece_of}
use Rattle.cck_files.specs.Errors.{IsDigestError}
use Rattle.cck_files.proofs.ReachedLemmas.{below}

pub material_of_file : (fm : FileMap) (p : Path) (contents : List ℕ) → contents_at fm p ≡ Ok contents → digest_material fm p ≡ Some contents
unfolding contents_at node_and_reached digest_material opening
material_of_file fm p contents e = by (get fm.nodes p) e
  where
    kinds : (k : FileKind) (node : FileNode) (bytes : List ℕ) → contents_if k bytes ≡ Ok contents
        → material_of (([], record node { kind = k; contents = bytes }) ∷ cond (is_folder_kind k) (reached fm.nodes p) []) ≡ Some contents
    kinds File node bytes e = let same : bytes ≡ contents = cc in ap Some (append-nil bytes ∙ same)
    kinds Folder node bytes e = cc
    kinds Other node bytes e = cc

    by : (o : Option FileNode) → contents_in o ≡ Ok contents → material_of (whole_part fm.nodes p o) ≡ Some contents
    by None e = cc
    by (Some node) e = kinds node.kind node node.contents e

named : (k : FileKind) (name contents : List ℕ) → piece_of k (Some name) contents ≡ named_piece_of k name contents
unfolding opening
named File name contents = refl
named Folder name contents = refl
named Other name contents = refl

named_pieces : (m : Nodes) (f : Path) (es : List (Path × FileNode)) → nodes_material None (below m f es) ≡ flat_map named_piece (below m f es)
named_pieces m f [] = refl
named_pieces m f (e ∷ es) = by (following f e.0) (named_pieces m f es)
  where
    by : (o : Option Path) → nodes_material None (below m f es) ≡ flat_map named_piece (below m f es)
        → nodes_material None (cons_option (if_reached m f e.1 o) (below m f es)) ≡ flat_map named_piece (cons_option (if_reached m f e.1 o) (below m f es))
    by None h = h
    by (Some []) h = h
    by (Some (c ∷ q)) h = elim (is_reached m f (c ∷ q)) as (λ b. nodes_material None (cons_option (cond b (Some (c ∷ q, e.1)) None) (below m f es)) ≡ flat_map named_piece (cons_option (cond b (Some (c ∷ q, e.1)) None) (below m f es))) [
      | true ↦ ap (λ z. z ++ nodes_material None (below m f es)) (named e.1.kind (relative_text (c ∷ q)) e.1.contents) ∙ ap (λ z. named_piece (c ∷ q, e.1) ++ z) h
      | false ↦ h
    ]

reached_named : (m : Nodes) (f : Path) → nodes_material None (reached m f) ≡ flat_map named_piece (reached m f)
unfolding reached
reached_named m f = named_pieces m f (entries m)

pub material_of_folder : (fm : FileMap) (p : Path) → folder_at fm p ≡ Ok tt
    → digest_material fm p ≡ cond (list_any is_other (reached fm.nodes p) || list_any (is_too_deep 1) (reached fm.nodes p)) None (Some (flat_map named_piece (reached fm.nodes p)))
unfolding folder_at node_and_reached digest_material
material_of_folder fm p e = by (get fm.nodes p) e ∙ ap (λ z. cond (list_any is_other (reached fm.nodes p) || list_any (is_too_deep 1) (reached fm.nodes p)) None (Some z)) (reached_named fm.nodes p)
  where
    kinds : (k : FileKind) (node : FileNode) → folder_if k ≡ Ok tt
        → material_of (([], record node { kind = k }) ∷ cond (is_folder_kind k) (reached fm.nodes p) [])
        ≡ cond (list_any is_other (reached fm.nodes p) || list_any (is_too_deep 1) (reached fm.nodes p)) None (Some (nodes_material None (reached fm.nodes p)))
    kinds File node e = cc
    kinds Folder node e = refl
    kinds Other node e = cc

    by : (o : Option FileNode) → folder_in o ≡ Ok tt
        → material_of (whole_part fm.nodes p o) ≡ cond (list_any is_other (reached fm.nodes p) || list_any (is_too_deep 1) (reached fm.nodes p)) None (Some (nodes_material None (reached fm.nodes p)))
    by None e = cc
    by (Some node) e = kinds node.kind node e

none_if_other : (es : List (Path × FileNode)) → list_any is_other es ≡ true → material_of es ≡ None
none_if_other [] e = cc
none_if_other (x ∷ es) e = ap (λ b. cond (b || list_any (is_too_deep 1) (x ∷ es)) None (Some (nodes_material None (x ∷ es)))) e

none_if_deep : (es : List (Path × FileNode)) → list_any (is_too_deep 1) es ≡ true → material_of es ≡ None
none_if_deep [] e = cc
none_if_deep (x ∷ es) e = ap (λ b. cond (list_any is_other (x ∷ es) || b) None (Some (nodes_material None (x ∷ es)))) e ∙ or_none (list_any is_other (x ∷ es)) (nodes_material None (x ∷ es))
  where
    or_none : (b : Bool) (bytes : List ℕ) → cond (b || true) None (Some bytes) ≡ None
    or_none true bytes = refl
    or_none false bytes = refl

pub no_material_of_error : (fm : FileMap) (p : Path) (e : UtilError) → e ≢ util.Memory → IsDigestError fm p ⊥ e → digest_material fm p ≡ None
unfolding exists_at node_and_reached digest_material
no_material_of_error fm p util.Memory other r = absurd (other refl)
no_material_of_error fm p util.Read other r = absurd r
no_material_of_error fm p (util.File NotFound) other r = by (get fm.nodes p) r
  where
    by : (o : Option FileNode) → is_some o ≡ false → material_of (whole_part fm.nodes p o) ≡ None
    by None e = refl
    by (Some node) e = cc
no_material_of_error fm p (util.File OtherKind) other r = none_if_other (node_and_reached fm.nodes p) r
no_material_of_error fm p (util.File Fault) other r = absurd r
no_material_of_error fm p (util.File Memory) other r = absurd r
no_material_of_error fm p util.TooDeep other r = none_if_deep (node_and_reached fm.nodes p) r
no_material_of_error fm p util.TooLong other r = absurd r
no_material_of_error fm p util.Write other r = absurd r
no_material_of_error fm p util.IncompleteEscape other r = absurd r
no_material_of_error fm p util.InvalidEscape other r = absurd r
no_material_of_error fm p util.IncompleteHex other r = absurd r
no_material_of_error fm p util.InvalidHex other r = absurd r
