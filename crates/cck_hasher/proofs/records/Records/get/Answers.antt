use Rattle.std.proofs.Common.{◌∙◌, Some, ap, sym}
use Rattle.std.specs.Option.{option_copied, option_map}
use Rattle.std.specs.Prelude.{string_bytes}
use Rattle.cck_path.specs.Path.{components}
use Rattle.cck_path.proofs.ValueLemmas.{get-map_values}
use Rattle.cck_hasher.proofs.records.Records.get.Goals as goal

pub returns-in_err-digest : goal.returns-in_err-digest
returns-in_err-digest c =
    rw (← c.self.view_is)
    (ap option_copied c.from_residual.ensures ∙ ap (option_map string_bytes) c.in_err-digest.ensures
    ∙ sym (get-map_values string_bytes c.self.inside.digests (components c.args.path.now)))

pub returns : goal.returns
returns c =
    rw (← c.self.view_is)
    (ap Some c.as_str.ensures.value ∙ ap (option_map string_bytes) c.in_ok-digest.ensures
    ∙ sym (get-map_values string_bytes c.self.inside.digests (components c.args.path.now)))
