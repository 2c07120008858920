use Rattle.std.proofs.Common.{ℕ, ap, cond, sym, ◌∙◌, None, Some}
use Rattle.std.proofs.lemmas.Bool.{ne_eqb}
use Rattle.cck_command.specs.ScriptNumbers.{from_one, ordinal}
use Rattle.cck_command.proofs.script.number.ordinal.Goals as goal

pub returns-in_err-n : goal.returns-in_err-n
unfolding ordinal
returns-in_err-n c = c.from_residual.ensures ∙ ap from_one c.in_err-n.ensures

pub returns-then-n-eq0 : goal.returns-then-n-eq0
unfolding ordinal
returns-then-n-eq0 c = sym (ap (λ (k : ℕ). from_one (Some k)) c.if-n-eq0.true) ∙ ap from_one c.in_ok-n.ensures

pub returns-else-n-eq0 : goal.returns-else-n-eq0
unfolding ordinal
returns-else-n-eq0 c = sym (ap (λ b. cond b None (Some c.in_ok-n.n)) (ne_eqb c.in_ok-n.n 0 c.if-n-eq0.false)) ∙ ap from_one c.in_ok-n.ensures
