use Rattle.cck_files.specs.Calls.{Rose}
use Rattle.cck_include.proofs.GatherLemmas.{missing_one}
use Rattle.cck_include.proofs.gathering.gathered_include.Goals as goal

pub returns-in-Err-clause-outcome : goal.returns-in-Err-clause-outcome
returns-in-Err-clause-outcome g c =
    let F = g.F.Files in
    rw c.io_error.ensures (missing_one (F.file_map c.args.files.now) c.args.moment (c.args.digest.now, c.args.path.now)
    (Rose (F.faults c.args.files.now) (F.faults c.metadata.new.self)) c.in-Err.error c.in-Err.ensures.outcome)
