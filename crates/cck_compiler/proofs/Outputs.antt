-- The outputs in the program's map.
use Rattle.std.proofs.Common.{◌≡◌, Bool, true, false, cond, List, [], ◌∷◌, map, refl, sym, ap, ◌∙◌, Option, None, Some, String, codes}
use Rattle.std.specs.BTreeMap.{is_at}
use Rattle.std.specs.Cmp.Lexicographic.{slice_cmp}
use Rattle.std.specs.List.{find}
use Rattle.std.specs.Map.{lookup}
use Rattle.std.specs.Option.{option_and_then, option_map, option_map_or}
use Rattle.std.specs.Ordering.{nat_cmp}
use Rattle.std.specs.Str.{bytes_eq}
use Rattle.std.specs.String.{string_bytes}
use Rattle.std.specs.declared.alloc.Global.{Global}
use Rattle.std.proofs.lemmas.Map.Text.{is_eq-slice_cmp}
use Rattle.cck_files.specs.FolderText.{lossy}
use Rattle.cck_path.specs.Bytes.{Bytes}
use Rattle.cck_path.specs.Names.{file_name_of}
use Rattle.cck_path.specs.Path.{components}
use Rattle.cck_compiler.specs.Arguments.{Arguments, output_name, output_path}
use Rattle.cck_compiler.specs.Seen.{output_of}
use Rattle.cck_compiler.specs.declared.arguments.ArtifactDescriptor.{ArtifactDescriptor}

-- what a look-up in it finds
pub found_output : (name : Bytes) (es : List (String Global × ArtifactDescriptor))
    → option_map (λ o. o.path.items) (lookup (is_at (λ k. slice_cmp nat_cmp name (string_bytes k))) es)
    ≡ option_map (λ o. o.path) (find (λ o. bytes_eq name o.name) (map output_of es))
found_output name [] = refl
found_output name (e ∷ es) =
    ap (λ t. option_map (λ (o : ArtifactDescriptor). o.path.items) (cond t (Some (e.1)) (lookup (is_at (λ k. slice_cmp nat_cmp name (string_bytes k))) es))) (is_eq-slice_cmp name (string_bytes (e.0)))
    ∙ by (bytes_eq name (string_bytes (e.0))) (found_output name es)
  where
    by : (b : Bool) → option_map (λ o. o.path.items) (lookup (is_at (λ k. slice_cmp nat_cmp name (string_bytes k))) es)
        ≡ option_map (λ o. o.path) (find (λ o. bytes_eq name o.name) (map output_of es))
        → option_map (λ o. o.path.items) (cond b (Some (e.1)) (lookup (is_at (λ k. slice_cmp nat_cmp name (string_bytes k))) es))
        ≡ option_map (λ o. o.path) (cond b (Some (output_of e)) (find (λ o. bytes_eq name o.name) (map output_of es)))
    by true h = refl
    by false h = h

-- there is no such output
pub no_output : (a : Arguments) → None ≡ output_path (codes "obj") a → output_name a ≡ codes "Unknown filename"
unfolding output_name
no_output a none = ap (λ o. option_map_or lossy (option_and_then (λ path. file_name_of (components path)) o) (codes "Unknown filename")) (sym none)

-- its path has this file name, or none
pub output_by : (a : Arguments) (path : Bytes) (name : Option Bytes) → Some path ≡ output_path (codes "obj") a → name ≡ file_name_of (components path)
    → output_name a ≡ option_map_or lossy name (codes "Unknown filename")
unfolding output_name
output_by a path name at is =
    ap (λ o. option_map_or lossy (option_and_then (λ path. file_name_of (components path)) o) (codes "Unknown filename")) (sym at)
    ∙ ap (λ o. option_map_or lossy o (codes "Unknown filename")) (sym is)
