use Rattle.std.proofs.Common.{◌∙◌}
use Rattle.cck_entry.proofs.KnownLemmas.{at_found, none_found}
use Rattle.cck_path.specs.Path.{components}
use Rattle.cck_entry.proofs.known.KnownFiles.place_of.Goals as goal

pub returns-in_default-clause-all : goal.returns-in_default-clause-all
returns-in_default-clause-all c = λ found i at. none_found i (c.in_default.ensures ∙ found (components c.args.path.now) i at)

pub returns-else-is_at-2-clause-all : goal.returns-else-is_at-2-clause-all
returns-else-is_at-2-clause-all c = λ found i at.
    absurd (c.if-is_at-2.ensures (rw c.deref-2.ensures.value (at_found (components c.args.path.now) c.args.self.now.files.items c.in-Some.place.now i (c.in-Some.ensures ∙ found (components c.args.path.now) i at) at)))
