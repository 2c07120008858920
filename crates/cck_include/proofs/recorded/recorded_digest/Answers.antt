use Rattle.std.proofs.Common.{◌≡◌, IsOkAnd, MatchResult, refl}
use Rattle.std.specs.Option.{option_map}
use Rattle.std.specs.String.{string_bytes}
use Rattle.cck_files.proofs.CallsLemmas.{calls_all, one_call, rose_earlier}
use Rattle.cck_files.specs.Calls.{Rose}
use Rattle.cck_files.specs.FileMap.{file_at}
use Rattle.cck_include.proofs.RecordedLemmas.{returned_by_result, without_metadata}
use Rattle.cck_include.specs.Recorded.{recorded}
use Rattle.cck_include.specs.Errors.{IsIoError}
use Rattle.cck_include.specs.Setting.{setting_in}
use Rattle.cck_path.specs.Path.{components}
use Rattle.jiff.specs.Words.{plain_zone}
use Rattle.cck_include.proofs.recorded.recorded_digest.Goals as goal

pub returns-in-Err-clause-outcome : goal.returns-in-Err-clause-outcome
returns-in-Err-clause-outcome g c =
    let F = g.F.Files in
    rw c.io_error.ensures (without_metadata (F.file_map c.args.files.now) (components c.args.path.now)
    (Rose (F.faults c.args.files.now) (F.faults c.metadata.new.self)) c.in-Err.error c.in-Err.ensures.outcome)

pub returns-clause-outcome : goal.returns-clause-outcome
returns-clause-outcome g c =
    let F = g.F.Files in
    let before = F.faults c.args.files.now in
    let between = F.faults c.metadata.new.self in
    let after = F.faults c.digest_with_metadata.new.files in
    let found = file_at (F.file_map c.args.files.now) (components c.args.path.now) in
    let s = setting_in g.H.HashState.hash c.args.config c.args.moment (plain_zone c.args.zone.now) c.args.vars.now in
    let there : MatchResult c.digest_with_metadata.result (λ digest. IsOkAnd found (λ file. option_map string_bytes digest ≡ recorded s file)) (IsIoError found (Rose between after)) =
    rw (← c.in-Ok.ensures.keeps.same_map) (c.digest_with_metadata.ensures.outcome (rw c.in-Ok.ensures.keeps.same_map c.in-Ok.ensures.outcome)) in
    returned_by_result c.digest_with_metadata.result _ found (Rose between after) (Rose before after) (rose_earlier before between after c.in-Ok.ensures.keeps.not_lower) there

pub returns-in-Err-clause-calls : goal.returns-in-Err-clause-calls
returns-in-Err-clause-calls g c = one_call _ _ _ (components c.args.path.now) refl c.in-Err.ensures.call

pub returns-clause-calls : goal.returns-clause-calls
returns-clause-calls g c = calls_all _ _ _ _ (one_call _ _ _ (components c.args.path.now) refl c.in-Ok.ensures.call) c.digest_with_metadata.ensures.calls
