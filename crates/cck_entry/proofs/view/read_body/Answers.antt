use Rattle.std.proofs.Common.{◌∙◌, [], sym, arith, ap, map}
use Rattle.cck_entry.specs.Lent.{counts, result_lent}
use Rattle.cck_entry.proofs.FieldLemmas.{IsBytes}
use Rattle.cck_entry.proofs.EntryLemmas.{count_bound, one_entry, read_error, read_text, sorted_from}
use Rattle.cck_entry.proofs.LentLemmas.{lent_count}
use Rattle.cck_entry.proofs.TextLemmas.{entry_takes}
use Rattle.cck_entry.proofs.view.read_body.Goals as goal

pub returns-in-Err-clause-read : goal.returns-in-Err-clause-read
returns-in-Err-clause-read c = read_error c.in-Err.error c.args.rest.now c.in-Err.ensures.read

pub total-requires : goal.total-requires
total-requires c =
    let bytes : IsBytes c.args.rest.now = λ i. omega (arith, c.type_inv.rest i) in
    let rs = c.in-Ok.results.items in
    omega (arith, count_bound c.args.rest.now (map result_lent rs) bytes c.in-Ok.ensures.read, lent_count rs c.in-Ok.ensures.whole, ap counts c.deref.ensures.value)

pub invariant_of-result : goal.invariant_of-result
invariant_of-result c =
    let bytes : IsBytes c.args.rest.now = λ i. omega (arith, c.type_inv.rest i) in
    let rs = c.in-Ok.results.items in
    record {
      ascend = sorted_from (map result_lent rs) [] (entry_takes c.args.rest.now (map result_lent rs) bytes c.in-Ok.ensures.read).0.ascends;
      whole = c.in-Ok.ensures.whole;
      count = c.total.ensures ∙ ap counts c.deref.ensures.value ∙ sym (lent_count rs c.in-Ok.ensures.whole);
    }

pub returns-in-Ok-clause-read : goal.returns-in-Ok-clause-read
returns-in-Ok-clause-read c =
    let bytes : IsBytes c.args.rest.now = λ i. omega (arith, c.type_inv.rest i) in
    let rs = map result_lent c.in-Ok.results.items in
    (read_text c.args.rest.now rs bytes c.in-Ok.ensures.read, λ e. one_entry c.args.rest.now rs e bytes c.in-Ok.ensures.read)
