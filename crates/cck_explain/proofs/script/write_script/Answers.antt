use Rattle.std.proofs.Common.{refl, subst, sym, inl, inr}
use Rattle.cck_digest.proofs.StreamLemmas.{after_error}
use Rattle.std.proofs.lemmas.Result.{err_from_is_err_and}
use Rattle.cck_explain.specs.Run.{ListsScript}
use Rattle.cck_explain.proofs.WrittenLemmas.{err_with, script_error, write_error}
use Rattle.cck_explain.proofs.script.write_script.Goals as goal

pub returns-in_err-listing-clause-begun : goal.returns-in_err-listing-clause-begun
returns-in_err-listing-clause-begun g c = after_error c.from_residual.result _ (inl refl)

pub returns-in_err-print-clause-begun : goal.returns-in_err-print-clause-begun
returns-in_err-print-clause-begun g c =
    let listing = subst (ListsScript g.H.HashState.hash c.args.text.now) (sym c.deref.ensures.value) c.in_ok-listing.ensures.listed in
    after_error c.from_residual-in_err-print.result _ (inr (c.deref.result.now, listing, c.in_err-print.ensures.begun))

pub returns-clause-listed : goal.returns-clause-listed
returns-clause-listed g c =
    let listing = subst (ListsScript g.H.HashState.hash c.args.text.now) (sym c.deref.ensures.value) c.in_ok-listing.ensures.listed in
    (c.deref.result.now, listing, c.in_ok-print.ensures.whole)

pub returns-in_err-listing-clause-errors : goal.returns-in_err-listing-clause-errors
returns-in_err-listing-clause-errors g c =
    let p = err_from_is_err_and c.from_residual.result c.from_residual.ensures.1 in
    err_with c.from_residual.result _ p.0 p.1 (script_error c.args.text.now c.in_err-listing.field-0.0 p.0 _ c.in_err-listing.ensures.errors p.2)

pub returns-in_err-print-clause-errors : goal.returns-in_err-print-clause-errors
returns-in_err-print-clause-errors g c =
    let p = err_from_is_err_and c.from_residual-in_err-print.result c.from_residual-in_err-print.ensures.1 in
    err_with c.from_residual-in_err-print.result _ p.0 p.1 (write_error c.args.text.now p.0 _ _ p.2)
