use Rattle.std.proofs.Common.{◌≡◌, ◌∙◌, length, ap, arith}
use Rattle.std.specs.FinMap.{len, len-entries}
use Rattle.std.proofs.lemmas.List.{length-map}
use Rattle.cck_entry.specs.Lent.{result_lent}
use Rattle.cck_c.proofs.entry.cck_entry_results.Goals as goal

pub returns-then-results-all-clause-short : goal.returns-then-results-all-clause-short
returns-then-results-all-clause-short c e =
    let all = c.results-all.result.now in
    let size : len c.in-Ok.view ≡ length all = len-entries c.in-Ok.view ∙ (ap length c.results-all.ensures.entries ∙ length-map all result_lent) in
    (c.in-Ok.view, c.in-Ok.ensures.reads, omega (arith, c.if-results-all.true))

pub returns-clause-done : goal.returns-clause-done
returns-clause-done c e =
    let all = c.results-all.result.now in
    let size : len c.in-Ok.view ≡ length all = len-entries c.in-Ok.view ∙ (ap length c.results-all.ensures.entries ∙ length-map all result_lent) in
    (c.in-Ok.view, c.in-Ok.ensures.reads, omega arith, rw c.results-all.ensures.entries c.write_results.ensures)
