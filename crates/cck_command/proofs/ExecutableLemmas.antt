-- The digest of the executable as it is before any line.
use Rattle.std.proofs.Common.{◌≡◌, [], ap, refl, ◌∙◌, Some, None, codes}
use Rattle.std.specs.FinMap as finite
use Rattle.std.specs.Option.{option_map}
use Rattle.cck_digest.specs.Digest.{digest_text}
use Rattle.cck_files.specs.FileDigest.{digest_text_at}
use Rattle.cck_files.specs.FolderText.{digest_material, material_of, opening, node_and_reached, whole_part}
use Rattle.cck_files.specs.FileMap.{FileMap}
use Rattle.cck_path.specs.Bytes.{Bytes}
use Rattle.cck_path.specs.Path.{Path, components}
use Rattle.cck_script.specs.Surroundings.{AreFiles, executable, executable_path, present}
use Rattle.c_cache_keys.specs.CCompiler.{executable_text}

exists_there : present [] (components executable_path) ≡ Some executable
unfolding present components
exists_there = refl

text_there : (hash : Bytes → Bytes) (files : FileMap) (p : Path) → finite.get files.nodes p ≡ Some executable → executable_text hash None files p ≡ Some (digest_text hash (codes "cc"))
unfolding executable_text digest_text_at digest_material node_and_reached opening
text_there hash files p here =
    ap (λ node. option_map (λ text. text) (option_map (digest_text hash) (material_of (whole_part files.nodes p node)))) here

-- the hex digest is that of the executable's two bytes
pub first_digest : (hash : Bytes → Bytes) (files : FileMap) (digest : Bytes) → AreFiles [] files
    → executable_text hash None files (components executable_path) ≡ Some digest → digest ≡ digest_text hash (codes "cc")
first_digest hash files digest are e =
    let there = text_there hash files (components executable_path) (are.nodes (components executable_path) ∙ exists_there) in
    cc
