-- the node at a path, by several functions
use Rattle.std.proofs.Common.{◌≡◌, ℕ, List, Option, Some, None, Ok, Err, length, refl, sym, ap, ◌∙◌}
use Rattle.std.specs.FinMap.{get}
use Rattle.cck_digest.specs.declared.error.FileError.{FileError}
use Rattle.cck_digest.specs.declared.error.FileError.TheVariants.{OtherKind}
use Rattle.cck_path.specs.Path.{Path}
use Rattle.cck_path.specs.declared.metadata.FileKind.{FileKind}
use Rattle.cck_path.specs.declared.metadata.FileKind.TheVariants.{File, Folder, Other}
use Rattle.cck_path.specs.declared.metadata.Metadata.{Metadata}
use Rattle.cck_files.specs.FileMap.{FileMap, FileNode, contents_at, contents_if, contents_in, contents_of_kind, file_at, file_if, file_in, metadata_at, metadata_in, metadata_of}

-- only a regular file has contents,
kind_with_contents : (n : FileNode) (k : FileKind) (c : List ℕ) → contents_if k n.contents ≡ Ok c → (file_if n k ≡ Ok n) × (n.contents ≡ c)
kind_with_contents n File c e = (refl, cc)
kind_with_contents n Folder c e = cc
kind_with_contents n Other c e = cc

pub found_with_contents : (o : Option FileNode) (c : List ℕ) → contents_in o ≡ Ok c → (n : FileNode) × (file_in o ≡ Ok n) × (n.contents ≡ c)
found_with_contents None c e = cc
found_with_contents (Some n) c e = let both = kind_with_contents n n.kind c e in (n, both.0, both.1)

pub file_with_contents : (m : FileMap) (p : Path) (c : List ℕ) → contents_at m p ≡ Ok c → (n : FileNode) × (file_at m p ≡ Ok n) × (n.contents ≡ c)
unfolding contents_at file_at
file_with_contents m p c e = found_with_contents (get m.nodes p) c e

-- and where there are none, there is no regular file, with the same error.
kind_without_contents : (n : FileNode) (k : FileKind) (x : FileError) → contents_if k n.contents ≡ Err x → file_if n k ≡ Err x
kind_without_contents n File x e = cc
kind_without_contents n Folder x e = cc
kind_without_contents n Other x e = cc

pub found_without_contents : (o : Option FileNode) (x : FileError) → contents_in o ≡ Err x → file_in o ≡ Err x
found_without_contents None x e = cc
found_without_contents (Some n) x e = kind_without_contents n n.kind x e

pub no_file_without_contents : (m : FileMap) (p : Path) (x : FileError) → contents_at m p ≡ Err x → file_at m p ≡ Err x
unfolding contents_at file_at
no_file_without_contents m p x e = found_without_contents (get m.nodes p) x e

-- where there is no metadata, there is no regular file, with the same error
found_without_metadata : (o : Option FileNode) (x : FileError) → metadata_in o ≡ Err x → file_in o ≡ Err x
found_without_metadata None x e = cc
found_without_metadata (Some n) x e = cc

pub no_file_without_metadata : (m : FileMap) (p : Path) (x : FileError) → metadata_at m p ≡ Err x → file_at m p ≡ Err x
unfolding metadata_at file_at
no_file_without_metadata m p x e = found_without_metadata (get m.nodes p) x e

-- each node has metadata
pub no_other_kind : (o : Option FileNode) → metadata_in o ≡ Err OtherKind → ⊥
no_other_kind None e = cc
no_other_kind (Some n) e = cc

-- the metadata of a regular file are those of its node
pub kind_of_file : (n o : FileNode) (k : FileKind) → n.kind ≡ k → file_if n k ≡ Ok o → (n ≡ o) × (o.kind ≡ File)
kind_of_file n o File is e = let same : n ≡ o = cc in (same, ap (λ (x : FileNode). x.kind) (sym same) ∙ is)
kind_of_file n o Folder is e = cc
kind_of_file n o Other is e = cc

found_metadata : (at : Option FileNode) (n : FileNode) (d : Metadata) → file_in at ≡ Ok n → metadata_in at ≡ Ok d → (d ≡ metadata_of n) × (n.kind ≡ File)
found_metadata None n d e f = cc
found_metadata (Some o) n d e f = let both = kind_of_file o n o.kind refl e in let same = both.0 in (cc, both.1)

pub metadata_of_file : (m : FileMap) (p : Path) (n : FileNode) (d : Metadata) → file_at m p ≡ Ok n → metadata_at m p ≡ Ok d → (d ≡ metadata_of n) × (n.kind ≡ File)
unfolding metadata_at file_at
metadata_of_file m p n d e f = found_metadata (get m.nodes p) n d e f

-- A node with the metadata of a regular file is one,
found_of_kind : (at : Option FileNode) (d : Metadata) → metadata_in at ≡ Ok d → d.kind ≡ File → (n : FileNode) × (file_in at ≡ Ok n) × (length n.contents ≡ d.len) × (n.modified ≡ d.modified) × (n.changed ≡ d.changed)
found_of_kind None d e is = cc
found_of_kind (Some n) d e is =
    let own : metadata_of n ≡ d = cc in
    let kind : n.kind ≡ File = ap (λ (x : Metadata). x.kind) own ∙ is in (
      n,
      ap (file_if n) kind,
      sym (ap (λ k. length (contents_of_kind k n.contents)) kind) ∙ ap (λ (x : Metadata). x.len) own,
      ap (λ (x : Metadata). x.modified) own,
      ap (λ (x : Metadata). x.changed) own,
    )

pub file_of_kind : (m : FileMap) (p : Path) (d : Metadata) → metadata_at m p ≡ Ok d → d.kind ≡ File
    → (n : FileNode) × (file_at m p ≡ Ok n) × (length n.contents ≡ d.len) × (n.modified ≡ d.modified) × (n.changed ≡ d.changed)
unfolding metadata_at file_at
file_of_kind m p d e is = found_of_kind (get m.nodes p) d e is

-- and a node with other metadata is none.
kind_no_file : (n : FileNode) (k : FileKind) → (k ≡ File → ⊥) → file_if n k ≡ Err OtherKind
kind_no_file n File h = absurd (h refl)
kind_no_file n Folder h = refl
kind_no_file n Other h = refl

found_no_file : (at : Option FileNode) (d : Metadata) → metadata_in at ≡ Ok d → (d.kind ≡ File → ⊥) → file_in at ≡ Err OtherKind
found_no_file None d e h = cc
found_no_file (Some n) d e h =
    let own : metadata_of n ≡ d = cc in
    kind_no_file n n.kind (λ is. h (ap (λ (x : Metadata). x.kind) (sym own) ∙ is))

pub no_file_of_kind : (m : FileMap) (p : Path) (d : Metadata) → metadata_at m p ≡ Ok d → (d.kind ≡ File → ⊥) → file_at m p ≡ Err OtherKind
unfolding metadata_at file_at
no_file_of_kind m p d e h = found_no_file (get m.nodes p) d e h
