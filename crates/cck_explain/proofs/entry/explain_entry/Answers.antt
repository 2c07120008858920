use Rattle.std.proofs.Common.{refl, inl}
use Rattle.std.proofs.lemmas.Result.{err_from_is_err_and}
use Rattle.cck_digest.proofs.StreamLemmas.{after_error}
use Rattle.cck_explain.proofs.BufferLemmas.{if_any}
use Rattle.cck_explain.proofs.WrittenLemmas.{err_of_stream, err_with, ok_of_stream, read_error}
use Rattle.cck_explain.specs.Written.{BeginsOf, WritesOf}
use Rattle.cck_explain_listing.specs.Bytes.{IsEntryListing}
use Rattle.cck_explain.proofs.entry.explain_entry.Goals as goal

pub returns-in_err-bytes-clause-begun : goal.returns-in_err-bytes-clause-begun
returns-in_err-bytes-clause-begun g c = after_error c.from_residual.result _ (if_any _ _ (λ bytes. inl refl))

pub returns-in_err-bytes-clause-errors : goal.returns-in_err-bytes-clause-errors
returns-in_err-bytes-clause-errors g c =
    let p = err_from_is_err_and c.from_residual.result c.from_residual.ensures.1 in
    err_with c.from_residual.result _ p.0 p.1 (read_error _ p.0 _ _ p.2.1)

pub returns-clause-listed : goal.returns-clause-listed
returns-clause-listed g c =
    ok_of_stream c.write_entry.result (g.R.Read.remaining c.args.reader.now) c.in_ok-bytes.bytes.items c.deref.result.now
    (λ bytes. WritesOf (IsEntryListing bytes) (g.W.Write.contents c.args.writer.now) (g.W.Write.contents c.write_entry.new.writer))
    c.in_ok-bytes.ensures.text c.deref.ensures.value c.write_entry.ensures.listed

pub returns-clause-begun : goal.returns-clause-begun
returns-clause-begun g c =
    err_of_stream c.write_entry.result (g.R.Read.remaining c.args.reader.now) c.in_ok-bytes.bytes.items c.deref.result.now
    (λ bytes. BeginsOf (IsEntryListing bytes) (g.W.Write.contents c.args.writer.now) (g.W.Write.contents c.write_entry.new.writer))
    c.in_ok-bytes.ensures.text c.deref.ensures.value c.write_entry.ensures.begun
