use Rattle.std.proofs.Common.{refl, subst, sym, inl, inr}
use Rattle.cck_digest.proofs.StreamLemmas.{after_error}
use Rattle.cck_explain_listing.specs.MarkerListing.{AreMarkerLines}
use Rattle.cck_explain.proofs.markers.write_markers.Goals as goal

pub returns-in_err-lines-clause-begun : goal.returns-in_err-lines-clause-begun
returns-in_err-lines-clause-begun g c = after_error c.from_residual.result _ (inl refl)

pub returns-in_err-print-clause-begun : goal.returns-in_err-print-clause-begun
returns-in_err-print-clause-begun g c =
    let request = c.args.request in
    let lines = subst (AreMarkerLines request.input.now request.cwd.now c.args.text.now) (sym c.deref.ensures.value) c.in_ok-lines.ensures in
    after_error c.from_residual-in_err-print.result _ (inr (c.deref.result.now, lines, c.in_err-print.ensures.begun))

pub returns-clause-listed : goal.returns-clause-listed
returns-clause-listed g c =
    let request = c.args.request in
    let lines = subst (AreMarkerLines request.input.now request.cwd.now c.args.text.now) (sym c.deref.ensures.value) c.in_ok-lines.ensures in
    (c.deref.result.now, lines, c.in_ok-print.ensures.whole)
