use Rattle.std.proofs.Common.{None, List, ap, sym, ◌∙◌, subst}
use Rattle.std.specs.Prelude.{flat_map, fold}
use Rattle.std.specs.List.{AllByRecursion}
use Rattle.std.proofs.lemmas.Grind.{fold-append}
use Rattle.cck_cache_options.specs.declared.runs.Run.{Run}
use Rattle.cck_cache_options.specs.Runs.{IsRun, run_entries}
use Rattle.cck_cache_options.specs.Table.{better, longest}
use Rattle.cck_cache_options.proofs.runs.longest.Goals as goal

pub returns : goal.returns
returns c are =
    let argument = c.args.argument.now in
    let all = λ (runs : List Run). longest (flat_map run_entries runs) argument in
    let same = c.deref.ensures.value in
    c.longest_in.ensures are.1
    ∙ ap (λ b. fold (better argument) b (run_entries c.args.runs.now.last)) (c.longest_among-before.ensures (subst (AllByRecursion IsRun) (sym same) are.0) ∙ ap all same)
    ∙ sym (fold-append (better argument) None (flat_map run_entries c.args.runs.now.done.items) (run_entries c.args.runs.now.last))
