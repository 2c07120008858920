use Rattle.std.proofs.Common.{IfSome, IsOkAnd, subst, ◌≡◌, ◌∙◌}
use Rattle.std.specs.Option.{option_map}
use Rattle.std.specs.String.{string_bytes}
use Rattle.cck_files.specs.Calls.{Rose}
use Rattle.cck_files.specs.FileMap.{file_at}
use Rattle.cck_entry.proofs.MatchLemmas.{by_known, exact}
use Rattle.cck_entry.specs.Known.{known_path}
use Rattle.cck_entry.specs.Matching.{digest_found}
use Rattle.cck_include.specs.Recorded.{recorded}
use Rattle.cck_include.specs.JudgeContext.{setting_of}
use Rattle.cck_entry.proofs.matching.is_recorded.Goals as goal

pub returns-in-Some-clause-outcome : goal.returns-in-Some-clause-outcome
returns-in-Some-clause-outcome g c = λ right.
    let F = g.F.Files in
    let s = setting_of g.H.HashState.hash c.args.context.now in
    let old = F.file_map c.args.files.now in
    let p = known_path c.args.file.now in
    let claim : IsOkAnd (file_at old p) (λ n. option_map string_bytes c.in-Some.digest ≡ recorded s n) =
    subst (λ o. IfSome o (λ d. IsOkAnd (file_at old p) (λ n. option_map string_bytes d ≡ recorded s n))) c.in-Some.is right.digest in
    exact c.is_digest.result (digest_found s c.args.expected.now (file_at old p)) (Rose (F.faults c.args.files.now) (F.faults c.args.files.now))
    (c.is_digest.ensures ∙ by_known s old p c.in-Some.digest c.args.expected.now claim)
