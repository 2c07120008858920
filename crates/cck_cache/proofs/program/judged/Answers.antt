use Rattle.std.proofs.Common.{ap, subst, ◌∙◌, List, IfOk}
use Rattle.cck_cache_options.specs.Table.{Entry, entries}
use Rattle.cck_path.specs.Bytes.{lists_of}
use Rattle.cck_cache.specs.Judge.{IsJudged}
use Rattle.cck_cache.proofs.program.judged.Goals as goal

pub returns : goal.returns
returns c = subst (λ (table : List Entry). IfOk c.judge.result (IsJudged table (lists_of c.args.arguments.now))) (ap entries c.deref.ensures.value ∙ c.in_ok-rows.ensures) c.judge.ensures
