-- the bytes that are hashed for a file or a directory, by the file map alone
use Rattle.std.specs.Prelude.{ℕ, ◌+◌, List, [], ◌∷◌, ◌++◌, length, Bool, true, false, ◌&&◌, ◌||◌, if◌then◌else◌, Option, Some, None, flat_map, filter_map, map, nat_lt}
use Rattle.std.specs.Option.{option_map_or}
use Rattle.std.specs.Str.{encode_utf8_all}
use Rattle.std.specs.List.{join_with_byte, list_any}
use Rattle.std.specs.Ordering.{eq_by_cmp}
use Rattle.std.specs.FinMap.{get, entries}
use Rattle.bstr.specs.Utf8.{lossy_chars}
use Rattle.cck_digest.specs.Digest.{delimiter_bytes}
use Rattle.cck_path.specs.Path.{Path, Component, Root, Current, Parent, Name, component_cmp}
use Rattle.cck_path.specs.Text.{component_text}
use Rattle.cck_path.specs.declared.metadata.FileKind.{FileKind}
use Rattle.cck_path.specs.declared.metadata.FileKind.TheVariants.{File, Folder, Other}
use Rattle.cck_files.specs.FileMap.{FileMap, FileNode, Nodes}

-- the rest of a path after another, if it begins with that one
abbrev pub following : Path → Path → Option Path
following [] q = Some q
following (c ∷ p) [] = None
following (c ∷ p) (d ∷ q) = if eq_by_cmp component_cmp c d then following p q else None

abbrev pub is_name : Component → Bool
is_name (Name n) = true
is_name _ = false

abbrev pub is_folder_kind : FileKind → Bool
is_folder_kind Folder = true
is_folder_kind _ = false

abbrev pub is_other_kind : FileKind → Bool
is_other_kind Other = true
is_other_kind _ = false

abbrev pub is_folder : Option FileNode → Bool
is_folder node = option_map_or (λ n. is_folder_kind n.kind) node false

abbrev pub is_empty_path : Path → Bool
is_empty_path [] = true
is_empty_path (c ∷ p) = false

-- whether a relative path consists of names, and each of its proper beginnings leads to a directory
abbrev pub is_reached : Nodes → Path → Path → Bool
is_reached m f [] = false
is_reached m f (c ∷ rest) = is_name c && (is_empty_path rest || (is_folder (get m (f ++ c ∷ [])) && is_reached m (f ++ c ∷ []) rest))

abbrev pub if_reached : Nodes → Path → FileNode → Option Path → Option (Path × FileNode)
if_reached m f n None = None
if_reached m f n (Some rest) = if is_reached m f rest then Some (rest, n) else None

-- what is reached from a directory through directories, by relative paths in path order
unfoldable pub reached : Nodes → Path → List (Path × FileNode)
reached m f = filter_map (λ e. if_reached m f e.1 (following f e.0)) (entries m)

abbrev pub whole_part : Nodes → Path → Option FileNode → List (Path × FileNode)
whole_part m p None = []
whole_part m p (Some node) = ([], node) ∷ (if is_folder_kind node.kind then reached m p else [])

-- the node at a path, and what is reached from it where it is a directory
unfoldable pub node_and_reached : Nodes → Path → List (Path × FileNode)
node_and_reached m p = whole_part m p (get m p)

-- neither a file nor a directory
abbrev pub is_other : Path × FileNode → Bool
is_other e = is_other_kind e.1.kind

-- a directory of a level above 100, below a node of this level
abbrev pub is_too_deep : ℕ → Path × FileNode → Bool
is_too_deep level e = is_folder_kind e.1.kind && nat_lt 100 (level + length e.0)

-- the text of a relative path: its names, separated by `/`
abbrev pub relative_text : Path → List ℕ
relative_text q = join_with_byte 47 (map component_text q)

-- the name of the node at a relative path below a node of this name. The node for which the digest is called has none
abbrev pub name_below : Option (List ℕ) → Path → Option (List ℕ)
name_below None [] = None
name_below None (c ∷ q) = Some (relative_text (c ∷ q))
name_below (Some name) [] = Some name
name_below (Some name) (c ∷ q) = Some (name ++ 47 ∷ relative_text (c ∷ q))

-- a name as text, with U+FFFD in place of what is not UTF-8
unfoldable pub lossy : List ℕ → List ℕ
lossy name = encode_utf8_all (lossy_chars name)

-- what is fed before the contents of a file
unfoldable pub opening : Option (List ℕ) → List ℕ
opening None = []
opening (Some name) = delimiter_bytes (lossy name)

abbrev pub piece_of : FileKind → Option (List ℕ) → List ℕ → List ℕ
piece_of File name contents = opening name ++ contents
piece_of _ name contents = []

-- what a file adds: its name, where it has one, and its contents
abbrev pub piece : Option (List ℕ) → Path × FileNode → List ℕ
piece name e = piece_of e.1.kind (name_below name e.0) e.1.contents

abbrev pub nodes_material : Option (List ℕ) → List (Path × FileNode) → List ℕ
nodes_material name = flat_map (piece name)

abbrev pub material_of : List (Path × FileNode) → Option (List ℕ)
material_of [] = None
material_of (e ∷ es) = if list_any is_other (e ∷ es) || list_any (is_too_deep 1) (e ∷ es) then None else Some (nodes_material None (e ∷ es))

-- the bytes that are hashed for the node at a path. For a file they are its contents. For a directory they are the delimiter of the name and the
-- contents of each file that is reached from it, in path order. There are none where there is no node, or where a node of another kind or a directory
-- of a level above 100 is reached. The node at the path has level 1
unfoldable pub digest_material : FileMap → Path → Option (List ℕ)
digest_material fm p = material_of (node_and_reached fm.nodes p)
