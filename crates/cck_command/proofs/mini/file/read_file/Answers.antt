use Rattle.cck_files.specs.Calls.{Rose}
use Rattle.cck_files.proofs.CallsLemmas.{rose_earlier}
use Rattle.cck_command.proofs.FileLemmas.{file_read, unknown, unread}
use Rattle.cck_command.proofs.mini.file.read_file.Goals as goal

pub returns-in-Err-clause-outcome : goal.returns-in-Err-clause-outcome
returns-in-Err-clause-outcome g c =
    let F = g.F.Files in
    rw c.print_error.ensures (unknown (F.file_map c.args.files.now) c.args.path.now (Rose (F.faults c.args.files.now) (F.faults c.metadata.new.self)) c.in-Err.error c.in-Err.ensures.outcome)

pub returns-in-Ok-read_contents_of_size-clause-outcome : goal.returns-in-Ok-read_contents_of_size-clause-outcome
returns-in-Ok-read_contents_of_size-clause-outcome g c =
    file_read (g.F.Files.file_map c.args.files.now) c.args.path.now c.in-Ok.metadata _ c.in-Ok.ensures.outcome (rw c.in-Ok.ensures.keeps.same_map at c.in-Ok-read_contents_of_size.ensures.outcome)

pub returns-in-Err-read_contents_of_size-clause-outcome : goal.returns-in-Err-read_contents_of_size-clause-outcome
returns-in-Err-read_contents_of_size-clause-outcome g c =
    let F = g.F.Files in
    rw c.print_error-in-Err-read_contents_of_size.ensures (unread (F.file_map c.args.files.now) c.args.path.now
    (Rose (F.faults c.metadata.new.self) (F.faults c.read_contents_of_size.new.files)) (Rose (F.faults c.args.files.now) (F.faults c.read_contents_of_size.new.files))
    c.in-Err-read_contents_of_size.error
    (rose_earlier _ _ _ c.in-Ok.ensures.keeps.not_lower)
    (rw c.in-Ok.ensures.keeps.same_map at c.in-Err-read_contents_of_size.ensures.outcome))
