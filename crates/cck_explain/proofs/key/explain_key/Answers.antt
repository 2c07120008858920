use Rattle.cck_digest.proofs.StreamLemmas.{after_error}
use Rattle.cck_explain.proofs.BufferLemmas.{begun_nothing, if_any}
use Rattle.cck_explain.proofs.key.explain_key.Goals as goal

pub returns-in_err-text-clause-begun : goal.returns-in_err-text-clause-begun
returns-in_err-text-clause-begun g c = after_error c.from_residual.result _ (if_any _ _ (λ text. begun_nothing _ _))

pub returns-in_err-key-clause-begun : goal.returns-in_err-key-clause-begun
returns-in_err-key-clause-begun g c = after_error c.from_residual-in_err-key.result _ (if_any _ _ (λ text. begun_nothing _ _))

pub returns-in_err-parts-clause-begun : goal.returns-in_err-parts-clause-begun
returns-in_err-parts-clause-begun g c = after_error c.from_residual-in_err-parts.result _ (if_any _ _ (λ text. begun_nothing _ _))

pub returns-in_err-cuts-clause-begun : goal.returns-in_err-cuts-clause-begun
returns-in_err-cuts-clause-begun g c = after_error c.from_residual-in_err-cuts.result _ (if_any _ _ (λ text. begun_nothing _ _))
