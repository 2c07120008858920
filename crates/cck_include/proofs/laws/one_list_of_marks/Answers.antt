use Rattle.cck_include.proofs.EachText.{has_one_list}
use Rattle.cck_include.proofs.laws.one_list_of_marks.Goals as goal

pub returns : goal.returns
returns c = has_one_list
