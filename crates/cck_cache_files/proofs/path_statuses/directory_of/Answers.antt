use Rattle.std.proofs.Common.{rules, ◌≡◌, ◌<◌, ◌∙◌, length, sym}
use Rattle.cck_cache_files.proofs.ProgramLemmas.{parts_last}
use Rattle.cck_cache_files.proofs.path_statuses.directory_of.Goals as goal

pub returns-clause-directory : goal.returns-clause-directory
returns-clause-directory c =
    let path = c.in_ok-path.path.now in
    let directory = c.in_ok-directory.directory.now in
    let same : path ≡ c.args.path.now = search rules in
    let some : 0 < length directory = search rules in
    let parts = parts_last path directory c.in_ok-directory.field-0-1.now c.in_ok-directory.ensures.cases in
    record { name = c.in_ok-directory.field-0-1.now; is_name = parts.0; whole = sym same ∙ parts.1; is_some = some }
