use Rattle.std.proofs.Common.{ap, sym, ◌∙◌}
use Rattle.std.specs.Option.{option_copied}
use Rattle.cck_path.specs.Path.{components}
use Rattle.cck_files.specs.FileState.{canonical_of, files_of, node_at, with_place}
use Rattle.cck_files.proofs.PlacesLemmas.{files_with, has_node, linked_none, linked_some}
use Rattle.cck_files.proofs.map_files.MapFiles.link.Goals as goal

pub returns-in_default-clause-set : goal.returns-in_default-clause-set
returns-in_default-clause-set c =
    c.remove.ensures
    ∙ (rw (← c.self.view_is) (λ i. record {
      files = linked_none c.self.inside.places (components c.args.path.now) (components c.args.target.now) (ap option_copied (sym c.in_default.is) ∙ c.get.ensures) i;
      faults = c.self.inside.faults;
      armed = c.self.inside.armed;
    }))

pub returns-clause-set : goal.returns-clause-set
returns-clause-set c =
    let m = c.self.inside.places in
    let p = components c.args.path.now in
    rw (← c.self.view_is) (λ i. record {
      files = (ap files_of c.in_ok-insert.ensures.set
          ∙ files_with m p c.in_ok-copy.copy
          ∙ (λ j. with_place (files_of m) p (c.in_ok-copy.ensures.node j) (c.in_ok-copy.ensures.canonical j))
          ∙ ap (λ place. with_place (files_of m) p (node_at place) (canonical_of place)) c.deref.ensures
          ∙ linked_some m p (components c.args.target.now) c.in-Some.place.now (ap option_copied (sym c.in-Some.is) ∙ c.get.ensures)) i;
      faults = c.self.inside.faults;
      armed = c.self.inside.armed;
    })

pub returns-in_err-copy-clause-memory : goal.returns-in_err-copy-clause-memory
returns-in_err-copy-clause-memory c = λ _.
    rw (← c.self.view_is) (has_node c.self.inside.places (components c.args.target.now) c.in-Some.place.now (ap option_copied (sym c.in-Some.is) ∙ c.get.ensures))

pub returns-in_err-insert-clause-memory : goal.returns-in_err-insert-clause-memory
returns-in_err-insert-clause-memory c = λ _.
    rw (← c.self.view_is) (has_node c.self.inside.places (components c.args.target.now) c.in-Some.place.now (ap option_copied (sym c.in-Some.is) ∙ c.get.ensures))
