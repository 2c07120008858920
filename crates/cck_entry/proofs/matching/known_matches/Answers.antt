use Rattle.std.proofs.Common.{IfOk, inl, sym, subst, ◌∙◌}
use Rattle.cck_files.specs.Calls.{Rose}
use Rattle.cck_files.specs.FileMap.{file_at}
use Rattle.cck_entry.proofs.KnownLemmas.{metadata_known}
use Rattle.cck_entry.proofs.MatchLemmas.{by_digest, by_times, other_kind, other_size}
use Rattle.cck_include.specs.Include.{include_lent}
use Rattle.cck_entry.specs.Matching.{MayMiss, digest_found}
use Rattle.cck_path.specs.Path.{components}
use Rattle.cck_include.specs.JudgeContext.{setting_of}
use Rattle.cck_entry.proofs.matching.known_matches.Goals as goal

pub returns-then-not-is_file-clause-outcome : goal.returns-then-not-is_file-clause-outcome
returns-then-not-is_file-clause-outcome g c = λ right path.
    let F = g.F.Files in
    let s = setting_of g.H.HashState.hash c.args.context.now in
    let old = F.file_map c.args.files.now in
    let i = include_lent c.args.include.now in
    let k = c.args.file.now in
    let is = metadata_known s old k (components i.path) right path in
    inl (other_kind s old i k.metadata is c.if-not-is_file.ensures)

pub returns-then-file-include-clause-outcome : goal.returns-then-file-include-clause-outcome
returns-then-file-include-clause-outcome g c = λ right path.
    let F = g.F.Files in
    let s = setting_of g.H.HashState.hash c.args.context.now in
    let old = F.file_map c.args.files.now in
    let i = include_lent c.args.include.now in
    let k = c.args.file.now in
    let is = metadata_known s old k (components i.path) right path in
    inl (other_size s old i k.metadata is c.if-not-is_file.ensures c.if-file-include.true)

pub returns-then-times_accept-clause-outcome : goal.returns-then-times_accept-clause-outcome
returns-then-times_accept-clause-outcome g c = λ right path.
    let F = g.F.Files in
    let s = setting_of g.H.HashState.hash c.args.context.now in
    let old = F.file_map c.args.files.now in
    let i = include_lent c.args.include.now in
    let k = c.args.file.now in
    let is = metadata_known s old k (components i.path) right path in
    by_times s old i k.metadata is c.if-not-is_file.ensures c.if-file-include.false (sym c.times_accept.ensures ∙ c.if-times_accept.true)

pub returns-clause-outcome : goal.returns-clause-outcome
returns-clause-outcome g c = λ right path.
    let F = g.F.Files in
    let s = setting_of g.H.HashState.hash c.args.context.now in
    let old = F.file_map c.args.files.now in
    let i = include_lent c.args.include.now in
    let k = c.args.file.now in
    let is = metadata_known s old k (components i.path) right path in
    let P = Rose (F.faults c.args.files.now) (F.faults c.is_recorded.new.files) in
    let there : IfOk c.is_recorded.result (λ is_match. MayMiss P is_match (digest_found s i.digest (file_at old (components i.path)))) =
    subst (λ q. IfOk c.is_recorded.result (λ is_match. MayMiss P is_match (digest_found s i.digest (file_at old q)))) path (c.is_recorded.ensures.outcome right) in
    let decides = by_digest s old i k.metadata is c.if-not-is_file.ensures c.if-file-include.false (sym c.times_accept.ensures ∙ c.if-times_accept.false) in
    subst (λ t. IfOk c.is_recorded.result (λ is_match. MayMiss P is_match t)) decides there
