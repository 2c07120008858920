use Rattle.std.proofs.Common.{◌∷◌, ap, sym, ◌∙◌}
use Rattle.cck_cache_options.specs.Table.{entry_of_line}
use Rattle.cck_cache_options.proofs.CutLemmas.{four_fields}
use Rattle.cck_cache_options.proofs.table.row_in.Goals as goal

pub returns-in-Some : goal.returns-in-Some
returns-in-Some c =
    sym (ap entry_of_line (c.in_ok-name.ensures.pieces ∙ ap (λ l. c.in_ok-name.name.now ∷ l) (c.in_ok-form.ensures.pieces ∙ ap (λ l. c.in_ok-form.form.now ∷ l) c.in-Some.ensures.pieces))
    ∙ four_fields c.in_ok-name.name.now c.in_ok-form.form.now c.in-Some.field-0.0.now c.in-Some.field-0.1.now)
