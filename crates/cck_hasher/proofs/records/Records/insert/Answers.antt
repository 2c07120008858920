use Rattle.std.proofs.Common.{◌∙◌, ap, subst, sym}
use Rattle.std.specs.Prelude.{string_bytes}
use Rattle.cck_path.specs.Path.{components}
use Rattle.cck_path.proofs.ValueLemmas.{map_values-insert}
use Rattle.cck_path.specs.Values.{map_values}
use Rattle.cck_hasher.proofs.RecordLemmas.{more_normal}
use Rattle.cck_hasher.specs.Digests.{AreNormal}
use Rattle.cck_hasher.proofs.records.Records.insert.Goals as goal
use Rattle.cck_hasher.proofs.records.Records.insert.Goals.{in-Ok, in-Err}

pub invariant_of-self : goal.invariant_of-self
invariant_of-self c =
    elim c.match-insert.branch [
      | in-Ok w ↦ subst AreNormal (sym w.in-Ok.ensures.set) (more_normal c.self.inside.digests (components c.args.path.now) c.args.digest c.self.invariant c.requires)
      | in-Err w ↦ subst AreNormal (sym w.in-Err.ensures.kept) c.self.invariant
    ]

pub returns-clause-set : goal.returns-clause-set
returns-clause-set c =
    elim c.match-insert.branch [
      | in-Ok w ↦ rw (w.result-is, ← c.self.view_is)
          (ap (map_values string_bytes) w.in-Ok.ensures.set ∙ map_values-insert string_bytes c.self.inside.digests (components c.args.path.now) c.args.digest)
      | in-Err w ↦ rw w.result-is tt
    ]
