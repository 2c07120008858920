use Rattle.std.proofs.Common.{List, ℕ, None, []}
use Rattle.std.specs.Prelude.{string_bytes}
use Rattle.cck_path.specs.Path.{Path, components}
use Rattle.cck_files.specs.FileMap.{FileMap}
use Rattle.cck_files.specs.FolderText.{nodes_material, node_and_reached}
use Rattle.cck_files.proofs.TextLemmas.{finished, material_some, text_some}
use Rattle.cck_files.proofs.file_digest.digest_path.Goals as goal

pub returns-clause-outcome : goal.returns-clause-outcome
returns-clause-outcome g c =
    let fm : FileMap = g.F.Files.file_map c.args.files.now in
    let path : Path = components c.args.path.now in
    let bytes : List ℕ = nodes_material None (node_and_reached fm.nodes path) in
    let (present, claim) = c.in_ok-feed_node.ensures.outcome in
    finished c.finish.result _ _ _
    (λ text is. text_some g.H.HashState.hash fm path bytes (string_bytes text)
    (material_some fm path present claim.none_other claim.none_too_deep) (is bytes (claim.fed [] c.new-digest.ensures)))
    tt c.finish.ensures.text c.finish.ensures.errors
