use Rattle.cck_entry.proofs.KnownLemmas.{never}
use Rattle.cck_entry.proofs.known.place_for.Goals as goal

pub returns-in-Err-clause-unasked : goal.returns-in-Err-clause-unasked
returns-in-Err-clause-unasked g c = λ found i at. never (c.in_default.ensures.all found i at)

pub returns-in_err-place-clause-known : goal.returns-in_err-place-clause-known
returns-in_err-place-clause-known g c = λ s right.
    c.in_err-place.ensures.known s (g.F.Files.file_map c.args.files.now) c.in-Ok.ensures.outcome (λ i at. never (c.in_default.ensures.all right.1 i at)) right

pub returns-in_err-place-clause-unasked : goal.returns-in_err-place-clause-unasked
returns-in_err-place-clause-unasked g c = λ found i at. never (c.in_default.ensures.all found i at)

pub returns-clause-known : goal.returns-clause-known
returns-clause-known g c = λ s right.
    c.in_ok-place.ensures.known s (g.F.Files.file_map c.args.files.now) c.in-Ok.ensures.outcome (λ i at. never (c.in_default.ensures.all right.1 i at)) right

pub returns-clause-unasked : goal.returns-clause-unasked
returns-clause-unasked g c = λ found i at. never (c.in_default.ensures.all found i at)
