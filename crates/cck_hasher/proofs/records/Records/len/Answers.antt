use Rattle.std.proofs.Common.{◌∙◌, sym}
use Rattle.std.specs.Prelude.{string_bytes}
use Rattle.cck_hasher.proofs.RecordLemmas.{len-map_values}
use Rattle.cck_hasher.proofs.records.Records.len.Goals as goal

pub returns : goal.returns
returns c = rw (← c.self.view_is) (c.len.ensures ∙ sym (len-map_values string_bytes c.self.inside.digests))
