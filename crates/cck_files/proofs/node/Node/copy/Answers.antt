use Rattle.std.proofs.Common.{◌∙◌, ap}
use Rattle.cck_files.proofs.node.Node.copy.Goals as goal

pub returns-clause-same : goal.returns-clause-same
returns-clause-same c =
    let node = c.args.self.now in
    ap (λ contents. ((node.kind, contents), (node.modified, node.changed))) (c.in_ok-to_vec.ensures.items_if_clones_equal (λ x y e. e) ∙ c.deref.ensures.value)
