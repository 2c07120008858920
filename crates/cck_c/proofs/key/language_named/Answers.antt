use Rattle.cck_c.proofs.LanguageLemmas.{no_name}
use Rattle.cck_c.proofs.key.language_named.Goals as goal

pub returns-in_default : goal.returns-in_default
returns-in_default c = no_name c.args.name.now c.in_default.ensures.cases.0
