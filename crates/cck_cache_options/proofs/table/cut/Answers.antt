use Rattle.std.proofs.Common.{None, Some, ◌∷◌, ◌+◌, ap, sym, ◌∙◌, take}
use Rattle.std.proofs.lemmas.List.{take_rest}
use Rattle.cck_cache_options.specs.Table.{split_at}
use Rattle.cck_cache_options.proofs.CutLemmas.{is_cut}
use Rattle.cck_cache_options.proofs.table.cut.Goals as goal

pub returns-in-None-clause-pieces : goal.returns-in-None-clause-pieces
returns-in-None-clause-pieces c = is_cut c.args.separator c.args.text.now None (rw c.in-None.is at c.memchr.ensures)

pub returns-in-Some-clause-pieces : goal.returns-in-Some-clause-pieces
returns-in-Some-clause-pieces c =
    is_cut c.args.separator c.args.text.now (Some c.in-Some.end) (rw c.in-Some.is at c.memchr.ensures)
    ∙ ap (λ rest. take c.in-Some.end c.args.text.now ∷ split_at c.args.separator rest) (sym (take_rest c.args.text.now (c.in-Some.end + 1)))
