use Rattle.cck_path.proofs.ByteLemmas.{first_is_position}
use Rattle.cck_command.proofs.script.word.find.Goals as goal

pub returns : goal.returns
returns c = first_is_position _ c.args.text.now c.memchr.result c.memchr.ensures
