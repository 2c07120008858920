-- properties of the definitions
use Rattle.std.specs.Prelude.{◌≡◌, ◌≢◌, ◌↔◌, ◌||◌, ℕ, List, [], ◌++◌, true, if◌then◌else◌, Some, None, Ok, Contains, flat_map}
use Rattle.std.specs.List.{AllByRecursion, list_any}
use Rattle.std.specs.FinMap.{get, is_sorted}
use Rattle.cck_digest.specs.Digest.{delimiter_bytes}
use Rattle.cck_digest.specs.declared.error.UtilError.{UtilError}
use Rattle.cck_path.specs.Path.{Path, path_cmp}
use Rattle.cck_path.specs.declared.metadata.FileKind.{FileKind}
use Rattle.cck_path.specs.declared.metadata.FileKind.TheVariants.{File, Folder, Other}
use Rattle.cck_files.specs.FileMap.{FileMap, FileNode, Nodes, contents_at, folder_at}
use Rattle.cck_files.specs.FolderText.{digest_material, is_folder, is_name, is_other, is_too_deep, lossy, reached, relative_text}
use Rattle.cck_files.specs.Errors.{IsDigestError}

-- a relative path of names leads from a directory through directories
pub record LeadsThrough (m : Nodes) (f q : Path) : Type 0 where
  pub some : q ≢ []
  pub names : AllByRecursion (λ c. is_name c ≡ true) q
  pub folders : (a b : Path) → a ≢ [] → b ≢ [] → q ≡ a ++ b → is_folder (get m (f ++ a)) ≡ true

-- the nodes that are reached are exactly those to which such a path leads, in strictly ascending path order
abbrev pub ReachedTells : Type 0
ReachedTells = (m : Nodes) (f : Path) → (is_sorted path_cmp (reached m f) ≡ true)
    × ((q : Path) (node : FileNode) → Contains (reached m f) (q, node) ↔ ((get m (f ++ q) ≡ Some node) × LeadsThrough m f q))

-- what is hashed for a regular file is its contents
abbrev pub FileMaterial : Type 0
FileMaterial = (fm : FileMap) (p : Path) (contents : List ℕ) → contents_at fm p ≡ Ok contents → digest_material fm p ≡ Some contents

abbrev pub named_piece_of : FileKind → List ℕ → List ℕ → List ℕ
named_piece_of File name contents = delimiter_bytes (lossy name) ++ contents
named_piece_of Folder name contents = []
named_piece_of Other name contents = []

-- the delimiter of a file's relative path, and its contents
abbrev pub named_piece : Path × FileNode → List ℕ
named_piece e = named_piece_of e.1.kind (relative_text e.0) e.1.contents

-- what is hashed for a directory is what is hashed for all files that are reached, if no other kind is reached, and no level above 100
abbrev pub FolderMaterial : Type 0
FolderMaterial = (fm : FileMap) (p : Path) → folder_at fm p ≡ Ok tt
    → digest_material fm p ≡ (if list_any is_other (reached fm.nodes p) || list_any (is_too_deep 1) (reached fm.nodes p) then None else Some (flat_map named_piece (reached fm.nodes p)))

-- where the error is neither a fault nor lack of memory, there is no digest
abbrev pub ErrorsTellNoMaterial : Type 0
ErrorsTellNoMaterial = (fm : FileMap) (p : Path) (e : UtilError) → e ≢ UtilError.Memory → IsDigestError fm p ⊥ e → digest_material fm p ≡ None
