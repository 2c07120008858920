use Rattle.std.proofs.Common.{◌∙◌, sym}
use Rattle.cck_include.proofs.SkipLemmas.{unmarked}
use Rattle.cck_include.proofs.item.may_be_marked.Goals as goal

pub returns-else-starts_with : goal.returns-else-starts_with
returns-else-starts_with c = λ not. unmarked c.args.starts_line c.args.text.now (sym c.starts_with.ensures.value ∙ c.if-starts_with.false) (sym c.starts_with-else-starts_with.ensures.value ∙ not)
