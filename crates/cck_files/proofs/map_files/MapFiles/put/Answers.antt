use Rattle.std.proofs.Common.{ap, ◌∙◌}
use Rattle.cck_path.specs.Path.{components}
use Rattle.cck_files.specs.FileState.{canonical_of, files_of, node_at, with_place}
use Rattle.cck_files.specs.Node.{node_of}
use Rattle.cck_files.proofs.PlacesLemmas.{files_with}
use Rattle.cck_files.proofs.map_files.MapFiles.put.Goals as goal

pub returns-clause-set : goal.returns-clause-set
returns-clause-set c =
    let m = c.self.inside.places in
    let p = components c.args.path.now in
    rw (← c.self.view_is) (λ i. record {
      files = (ap files_of c.in_ok-insert.ensures.set
          ∙ files_with m p c.in_ok-place.place
          ∙ ap (λ place. with_place (files_of m) p (node_at place) (canonical_of place)) c.in_ok-place.ensures.ok
          ∙ ap (with_place (files_of m) p (node_of c.args.node)) c.in_ok-canonical.ensures.components) i;
      faults = c.self.inside.faults;
      armed = c.self.inside.armed;
    })
