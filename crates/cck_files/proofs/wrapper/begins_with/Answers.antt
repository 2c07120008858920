use Rattle.std.proofs.Common.{◌∙◌, sym, ap}
use Rattle.std.specs.Str.{str_eq_ignore_ascii_case}
use Rattle.cck_files.proofs.WrapperLemmas.{too_short}
use Rattle.cck_files.proofs.wrapper.begins_with.Goals as goal

pub returns-in-Some : goal.returns-in-Some
returns-in-Some c = c.is_same_name.ensures ∙ ap (λ s. str_eq_ignore_ascii_case s c.args.beginning.now) c.in-Some.ensures.cases.1

pub returns-in-None : goal.returns-in-None
returns-in-None c = sym (too_short c.args.name.now c.args.beginning.now c.in-None.ensures.cases)
