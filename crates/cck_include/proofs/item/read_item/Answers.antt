use Rattle.std.proofs.Common.{sym, ◌∙◌, subst}
use Rattle.cck_include.specs.Items.{BeginsWith}
use Rattle.cck_include.proofs.ItemLemmas.{plain_item, inclusion_item, hidden_item, hidden_rest, nothing_left, some_byte}
use Rattle.cck_include.proofs.item.read_item.Goals as goal

pub returns-in_err-end-in-Hidden-clause-begins : goal.returns-in_err-end-in-Hidden-clause-begins
returns-in_err-end-in-Hidden-clause-begins c = subst (BeginsWith c.args.starts_line c.args.text.now) (sym c.from_residual.ensures) (hidden_rest c.args.starts_line c.args.text.now (sym c.in-Hidden.ensures) c.in_err-end-in-Hidden.ensures)

pub bounds-text-0 : goal.bounds-text-0
bounds-text-0 c = some_byte c.args.starts_line c.args.text.now (λ e. let apart = sym e ∙ sym c.in-Plain.ensures in cc)

pub returns-in-Short-clause-begins : goal.returns-in-Short-clause-begins
returns-in-Short-clause-begins c = nothing_left c.args.starts_line c.args.text.now (sym c.in-Short.ensures)

pub returns-in_ok-end-in-Hidden-clause-begins : goal.returns-in_ok-end-in-Hidden-clause-begins
returns-in_ok-end-in-Hidden-clause-begins c = hidden_item c.args.starts_line c.args.text.now c.in_ok-end-in-Hidden.end (sym c.in-Hidden.ensures) c.in_ok-end-in-Hidden.ensures

pub returns-in-Inclusion-clause-begins : goal.returns-in-Inclusion-clause-begins
returns-in-Inclusion-clause-begins c = inclusion_item c.args.starts_line c.args.text.now (sym c.in-Inclusion.ensures) (some_byte c.args.starts_line c.args.text.now (λ e. let apart = sym e ∙ sym c.in-Inclusion.ensures in cc))

pub returns-in-Plain-clause-begins : goal.returns-in-Plain-clause-begins
returns-in-Plain-clause-begins c = plain_item c.args.starts_line c.args.text.now 0 (sym c.in-Plain.ensures) (some_byte c.args.starts_line c.args.text.now (λ e. let apart = sym e ∙ sym c.in-Plain.ensures in cc))
