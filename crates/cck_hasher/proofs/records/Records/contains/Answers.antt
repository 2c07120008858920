use Rattle.std.proofs.Common.{◌∙◌, sym}
use Rattle.std.specs.Prelude.{string_bytes}
use Rattle.cck_path.specs.Path.{components}
use Rattle.cck_path.proofs.ValueLemmas.{contains-map_values}
use Rattle.cck_hasher.proofs.records.Records.contains.Goals as goal

pub returns : goal.returns
returns c = rw (← c.self.view_is) (c.contains.ensures ∙ sym (contains-map_values string_bytes c.self.inside.digests (components c.args.path.now)))
