use Rattle.std.proofs.Common.{◌∷◌, []}
use Rattle.cck_cache_files.proofs.ProgramLemmas.{after_first, after_line, lines_start}
use Rattle.cck_cache_files.proofs.programs.read_list.Goals as goal

pub returns-in_err-paths : goal.returns-in_err-paths
returns-in_err-paths c =
    rw c.from_residual-in_err-paths.ensures
    (λ file paths programs statuses has.
    let first = after_first _ _ c.in_ok-rest.rest.now statuses _ c.in_ok-rest.ensures.cases has in
    let second = after_line _ _ c.in_ok-file.rest.now file statuses (paths ∷ programs ∷ []) c.in_ok-file.ensures has.lines_are first in
    c.in_err-paths.ensures paths _ (lines_start _ paths statuses (programs ∷ []) has.lines_are.1 second))

pub returns-in_err-programs : goal.returns-in_err-programs
returns-in_err-programs c =
    rw c.from_residual-in_err-programs.ensures
    (λ file paths programs statuses has.
    let first = after_first _ _ c.in_ok-rest.rest.now statuses _ c.in_ok-rest.ensures.cases has in
    let second = after_line _ _ c.in_ok-file.rest.now file statuses (paths ∷ programs ∷ []) c.in_ok-file.ensures has.lines_are first in
    let third = after_line _ _ c.in_ok-paths.rest.now paths statuses (programs ∷ []) c.in_ok-paths.ensures has.lines_are.1 second in
    c.in_err-programs.ensures programs _ (lines_start _ programs statuses [] has.lines_are.1.1 third))
