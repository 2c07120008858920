use Rattle.std.proofs.Common.{refl, inl}
use Rattle.cck_digest.proofs.StreamLemmas.{after_error}
use Rattle.cck_explain.proofs.BufferLemmas.{if_any}
use Rattle.cck_explain.proofs.markers.explain_markers.Goals as goal

pub returns-in_err-text-clause-begun : goal.returns-in_err-text-clause-begun
returns-in_err-text-clause-begun g c = after_error c.from_residual.result _ (if_any _ _ (λ text. inl refl))
