use Rattle.std.specs.String.{string_bytes}
use Rattle.cck_files.specs.Calls.{Rose}
use Rattle.cck_include.proofs.RecordedLemmas.{recorded_counting, recorded_ignoring, without_contents}
use Rattle.cck_path.specs.Path.{components}
use Rattle.cck_include.specs.JudgeContext.{setting_of}
use Rattle.cck_include.proofs.recorded.digest_with_metadata.Goals as goal

pub returns-in-Err-clause-outcome : goal.returns-in-Err-clause-outcome
returns-in-Err-clause-outcome g c = λ is.
    let F = g.F.Files in
    let Rises = Rose (F.faults c.args.files.now) (F.faults c.contents_text.new.files) in
    rw c.io_error.ensures (without_contents (F.file_map c.args.files.now) (components c.args.path.now) Rises Rises c.in-Err.error (λ rose. rose) c.in-Err.ensures.outcome)

pub returns-in-Err-read_once-clause-outcome : goal.returns-in-Err-read_once-clause-outcome
returns-in-Err-read_once-clause-outcome g c = λ is.
    let F = g.F.Files in
    let Rises = Rose (F.faults c.args.files.now) (F.faults c.read_once.new.files) in
    rw c.io_error-in-Err-read_once.ensures (without_contents (F.file_map c.args.files.now) (components c.args.path.now) Rises Rises c.in-Err-read_once.error (λ rose. rose) c.in-Err-read_once.ensures.outcome)

pub returns-in-Ok-clause-outcome : goal.returns-in-Ok-clause-outcome
returns-in-Ok-clause-outcome g c = λ is.
    let F = g.F.Files in
    recorded_ignoring (setting_of g.H.HashState.hash c.args.context.now) (F.file_map c.args.files.now) (components c.args.path.now)
    (string_bytes c.in-Ok.text) c.if-context.true c.in-Ok.ensures.outcome

pub returns-clause-outcome : goal.returns-clause-outcome
returns-clause-outcome g c = λ is.
    let F = g.F.Files in
    recorded_counting (setting_of g.H.HashState.hash c.args.context.now) (F.file_map c.args.files.now) (components c.args.path.now)
    c.in-Ok-read_once.scan c.args.metadata (Rose (F.faults c.args.files.now) (F.faults c.read_once.new.files)) c.digest_of.result c.if-context.false is c.in-Ok-read_once.ensures.outcome
    c.digest_of.ensures.digest c.digest_of.ensures.errors
