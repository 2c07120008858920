use Rattle.std.proofs.Common.{IsOkAnd, inl, ◌≡◌, refl}
use Rattle.std.specs.Prelude.{Some, None, Option, List, ℕ, string_bytes}
use Rattle.cck_files.proofs.CallsLemmas.{calls_all, one_call, rose_earlier}
use Rattle.cck_files.specs.Calls.{Rose}
use Rattle.cck_files.specs.FileMap.{file_at}
use Rattle.cck_include.specs.JudgeContext.{setting_of}
use Rattle.cck_include.specs.Recorded.{recorded}
use Rattle.cck_include.specs.Errors.{IsIoError}
use Rattle.cck_path.specs.Path.{components}
use Rattle.cck_hasher.proofs.JudgeLemmas.{digest_at, folder_at, late_at, no_metadata, other_at, unread_at}
use Rattle.cck_hasher.proofs.judge.judge.Goals as goal

pub returns-in-Err-clause-outcome : goal.returns-in-Err-clause-outcome
returns-in-Err-clause-outcome g c =
    let F = g.F.Files in
    let s = setting_of g.H.HashState.hash c.args.context.now in
    no_metadata s (F.file_map c.args.files.now) (components c.args.path.now) (Rose (F.faults c.args.files.now) (F.faults c.metadata.new.self)) c.in-Err.field-0 c.in-Err.ensures.outcome

pub returns-in-Folder-clause-outcome : goal.returns-in-Folder-clause-outcome
returns-in-Folder-clause-outcome g c =
    let F = g.F.Files in
    let s = setting_of g.H.HashState.hash c.args.context.now in
    folder_at s (F.file_map c.args.files.now) (components c.args.path.now) c.in-Ok.metadata c.in-Ok.ensures.outcome c.in-Folder.is

pub returns-in-Other-clause-outcome : goal.returns-in-Other-clause-outcome
returns-in-Other-clause-outcome g c =
    let F = g.F.Files in
    let s = setting_of g.H.HashState.hash c.args.context.now in
    inl (other_at s (F.file_map c.args.files.now) (components c.args.path.now) c.in-Ok.metadata c.in-Ok.ensures.outcome c.in-Other.is)

pub returns-then-has_late_time-clause-outcome : goal.returns-then-has_late_time-clause-outcome
returns-then-has_late_time-clause-outcome g c =
    let F = g.F.Files in
    let s = setting_of g.H.HashState.hash c.args.context.now in
    inl (late_at s (F.file_map c.args.files.now) (components c.args.path.now) c.in-Ok.metadata c.in-Ok.ensures.outcome c.in-File.is c.if-has_late_time.ensures)

pub returns-in-Ok-Some-clause-outcome : goal.returns-in-Ok-Some-clause-outcome
returns-in-Ok-Some-clause-outcome g c =
    let F = g.F.Files in
    let s = setting_of g.H.HashState.hash c.args.context.now in
    let old = F.file_map c.args.files.now in
    let p = components c.args.path.now in
    let digest : Option (List ℕ) = Some (string_bytes c.in-Ok-Some.digest) in
    let there : IsOkAnd (file_at old p) (λ file. digest ≡ recorded s file) = rw (← c.in-Ok.ensures.keeps.same_map) (rw c.in-Ok-Some.field-0-is at c.in-Ok-Some.ensures.outcome) in
    digest_at s old p c.in-Ok.metadata c.in-Ok.ensures.outcome c.in-File.is c.if-has_late_time.ensures digest there

pub returns-in-Ok-None-clause-outcome : goal.returns-in-Ok-None-clause-outcome
returns-in-Ok-None-clause-outcome g c =
    let F = g.F.Files in
    let s = setting_of g.H.HashState.hash c.args.context.now in
    let old = F.file_map c.args.files.now in
    let p = components c.args.path.now in
    let digest : Option (List ℕ) = None in
    let there : IsOkAnd (file_at old p) (λ file. digest ≡ recorded s file) = rw (← c.in-Ok.ensures.keeps.same_map) (rw c.in-Ok-None.field-0-is at c.in-Ok-None.ensures.outcome) in
    inl (digest_at s old p c.in-Ok.metadata c.in-Ok.ensures.outcome c.in-File.is c.if-has_late_time.ensures digest there)

pub returns-in-Err-recorded_digest-clause-outcome : goal.returns-in-Err-recorded_digest-clause-outcome
returns-in-Err-recorded_digest-clause-outcome g c =
    let F = g.F.Files in
    let s = setting_of g.H.HashState.hash c.args.context.now in
    let old = F.file_map c.args.files.now in
    let p = components c.args.path.now in
    let R = Rose (F.faults c.metadata.new.self) (F.faults c.recorded_digest.new.files) in
    let S = Rose (F.faults c.args.files.now) (F.faults c.recorded_digest.new.files) in
    let there : IsIoError (file_at old p) R c.in-Err-recorded_digest.error = rw (← c.in-Ok.ensures.keeps.same_map) c.in-Err-recorded_digest.ensures.outcome in
    rw c.judge_unread.ensures
    (unread_at s old p c.in-Ok.metadata c.in-Ok.ensures.outcome c.in-File.is R S c.in-Err-recorded_digest.error
    (rose_earlier (F.faults c.args.files.now) (F.faults c.metadata.new.self) (F.faults c.recorded_digest.new.files) c.in-Ok.ensures.keeps.not_lower) there)

pub returns-in-Err-clause-calls : goal.returns-in-Err-clause-calls
returns-in-Err-clause-calls g c = one_call _ _ _ (components c.args.path.now) refl c.in-Err.ensures.call

pub returns-in-Folder-clause-calls : goal.returns-in-Folder-clause-calls
returns-in-Folder-clause-calls g c = one_call _ _ _ (components c.args.path.now) refl c.in-Ok.ensures.call

pub returns-in-Other-clause-calls : goal.returns-in-Other-clause-calls
returns-in-Other-clause-calls g c = one_call _ _ _ (components c.args.path.now) refl c.in-Ok.ensures.call

pub returns-then-has_late_time-clause-calls : goal.returns-then-has_late_time-clause-calls
returns-then-has_late_time-clause-calls g c = one_call _ _ _ (components c.args.path.now) refl c.in-Ok.ensures.call

pub returns-in-Ok-Some-clause-calls : goal.returns-in-Ok-Some-clause-calls
returns-in-Ok-Some-clause-calls g c = calls_all _ _ _ _ (one_call _ _ _ (components c.args.path.now) refl c.in-Ok.ensures.call) c.in-Ok-Some.ensures.calls

pub returns-in-Ok-None-clause-calls : goal.returns-in-Ok-None-clause-calls
returns-in-Ok-None-clause-calls g c = calls_all _ _ _ _ (one_call _ _ _ (components c.args.path.now) refl c.in-Ok.ensures.call) c.in-Ok-None.ensures.calls

pub returns-in-Err-recorded_digest-clause-calls : goal.returns-in-Err-recorded_digest-clause-calls
returns-in-Err-recorded_digest-clause-calls g c = calls_all _ _ _ _ (one_call _ _ _ (components c.args.path.now) refl c.in-Ok.ensures.call) c.in-Err-recorded_digest.ensures.calls
