use Rattle.std.proofs.Common.{◌∙◌, ap, subst, sym}
use Rattle.std.specs.Prelude.{string_bytes}
use Rattle.cck_path.proofs.ValueLemmas.{map_values-empty}
use Rattle.cck_path.specs.Values.{map_values}
use Rattle.cck_hasher.proofs.RecordLemmas.{none_normal}
use Rattle.cck_hasher.specs.Digests.{AreNormal}
use Rattle.cck_hasher.proofs.records.Records.new.Goals as goal

pub invariant_of-result : goal.invariant_of-result
invariant_of-result c = subst AreNormal (sym c.new.ensures) (none_normal _)

pub returns : goal.returns
returns c = ap (map_values string_bytes) c.new.ensures ∙ map_values-empty string_bytes
