use Rattle.cck_command.proofs.ExpandLemmas.{line_none_at, line_some_at}
use Rattle.cck_command.proofs.mini.line.cut_line.Goals as goal

pub returns-in-None-clause-line : goal.returns-in-None-clause-line
returns-in-None-clause-line c = line_none_at _ c.in-None.ensures c.requires

pub returns-in-Some-clause-line : goal.returns-in-Some-clause-line
returns-in-Some-clause-line c = line_some_at _ _ c.in-Some.ensures
