use Rattle.std.proofs.Common.{None, Some, ap, sym, ◌∙◌}
use Rattle.std.specs.Option.{option_copied}
use Rattle.cck_path.specs.Path.{components}
use Rattle.cck_files.proofs.PlacesLemmas.{found}
use Rattle.cck_files.proofs.map_files.MapFiles.place.Goals as goal

pub returns-in_err-place : goal.returns-in_err-place
returns-in_err-place c =
    rw (c.from_residual.ensures, ← c.self.view_is)
    (found c.self.inside.places (components c.args.path.now) None (ap option_copied (sym c.in_err-place.was) ∙ c.get.ensures))

pub returns : goal.returns
returns c =
    rw (c.deref.ensures, ← c.self.view_is)
    (found c.self.inside.places (components c.args.path.now) (Some c.in_ok-place.place) (ap option_copied (sym c.in_ok-place.was) ∙ c.get.ensures))
