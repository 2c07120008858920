use Rattle.std.proofs.lemmas.Result.{err_from_is_err_and}
use Rattle.cck_files.proofs.CallsLemmas.{keeps_all, keeps_itself}
use Rattle.cck_hasher.proofs.Stepped.{step_failed, step_hit, step_made, step_starved, step_stopped}
use Rattle.cck_hasher.proofs.hasher.CCompilerHasher.generate_hash_key.Goals as goal

pub returns-in_err-weak_toolchain_key-clause-step : goal.returns-in_err-weak_toolchain_key-clause-step
returns-in_err-weak_toolchain_key-clause-step g c =
    let p = err_from_is_err_and c.from_residual.result c.from_residual.ensures.1 in
    rw (p.1, p.2) (step_starved _ _ _ _ _)

pub returns-in_err-opening-clause-step : goal.returns-in_err-opening-clause-step
returns-in_err-opening-clause-step g c =
    let p = err_from_is_err_and c.from_residual-in_err-opening.result c.from_residual-in_err-opening.ensures.1 in
    rw (p.1, p.2) (step_stopped _ _ _ _ _ _ c.in_err-opening.ensures.outcome)

pub returns-in_err-found-clause-step : goal.returns-in_err-found-clause-step
returns-in_err-found-clause-step g c =
    let first = g.F.Files.faults c.args.files.now in
    let second = g.F.Files.faults c.open.new.files in
    let last = g.F.Files.faults c.find.new.files in
    let p = err_from_is_err_and c.from_residual-in_err-found.result c.from_residual-in_err-found.ensures.1 in
    rw (p.1, p.2) (step_failed _ _ _ c.in_ok-opening.opening c.in_ok-opening.ensures.outcome first second last c.in_ok-opening.ensures.keeps.not_lower c.args.store.now c.find.new.store c.in_err-found.field-0.0
    (rw c.in_ok-opening.ensures.keeps.same_map at c.in_err-found.ensures.found))

pub returns-in-Some-clause-step : goal.returns-in-Some-clause-step
returns-in-Some-clause-step g c =
    let first = g.F.Files.faults c.args.files.now in
    let second = g.F.Files.faults c.open.new.files in
    let last = g.F.Files.faults c.find.new.files in
    step_hit _ _ _ c.in_ok-opening.opening c.in_ok-opening.ensures.outcome first second last c.in_ok-opening.ensures.keeps.not_lower c.args.store.now c.find.new.store
    c.in_ok-found.found c.in-Some.key c.in-Some.is (rw c.in_ok-opening.ensures.keeps.same_map at c.in_ok-found.ensures.found)

pub returns-in_err-key-clause-step : goal.returns-in_err-key-clause-step
returns-in_err-key-clause-step g c =
    let first = g.F.Files.faults c.args.files.now in
    let second = g.F.Files.faults c.open.new.files in
    let third = g.F.Files.faults c.find.new.files in
    let last = g.F.Files.faults c.make.new.files in
    let p = err_from_is_err_and c.from_residual-in_err-key.result c.from_residual-in_err-key.ensures.1 in
    rw (p.1, p.2) (step_made _ _ _ c.in_ok-opening.opening c.in_ok-opening.ensures.outcome first second last c.in_ok-opening.ensures.keeps.not_lower c.args.store.now c.make.new.store
    third c.in_ok-found.ensures.keeps.not_lower c.in_err-key.ensures.keeps.not_lower c.find.new.store c.in_ok-found.found c.in_default.is
    (rw c.in_ok-opening.ensures.keeps.same_map at c.in_ok-found.ensures.found) _
    (rw (c.in_ok-found.ensures.keeps.same_map, c.in_ok-opening.ensures.keeps.same_map) at c.in_err-key.ensures.makes))

pub returns-clause-step : goal.returns-clause-step
returns-clause-step g c =
    let first = g.F.Files.faults c.args.files.now in
    let second = g.F.Files.faults c.open.new.files in
    let third = g.F.Files.faults c.find.new.files in
    let last = g.F.Files.faults c.make.new.files in
    step_made _ _ _ c.in_ok-opening.opening c.in_ok-opening.ensures.outcome first second last c.in_ok-opening.ensures.keeps.not_lower c.args.store.now c.make.new.store
    third c.in_ok-found.ensures.keeps.not_lower c.in_ok-key.ensures.keeps.not_lower c.find.new.store c.in_ok-found.found c.in_default.is
    (rw c.in_ok-opening.ensures.keeps.same_map at c.in_ok-found.ensures.found) _
    (rw (c.in_ok-found.ensures.keeps.same_map, c.in_ok-opening.ensures.keeps.same_map) at c.in_ok-key.ensures.makes)

pub returns-in_err-weak_toolchain_key-clause-keeps : goal.returns-in_err-weak_toolchain_key-clause-keeps
returns-in_err-weak_toolchain_key-clause-keeps g c = keeps_itself c.args.files.now

pub returns-in_err-opening-clause-keeps : goal.returns-in_err-opening-clause-keeps
returns-in_err-opening-clause-keeps g c = c.in_err-opening.ensures.keeps

pub returns-in_err-found-clause-keeps : goal.returns-in_err-found-clause-keeps
returns-in_err-found-clause-keeps g c = keeps_all _ _ _ c.in_ok-opening.ensures.keeps c.in_err-found.ensures.keeps

pub returns-in-Some-clause-keeps : goal.returns-in-Some-clause-keeps
returns-in-Some-clause-keeps g c = keeps_all _ _ _ c.in_ok-opening.ensures.keeps c.in_ok-found.ensures.keeps

pub returns-in_err-key-clause-keeps : goal.returns-in_err-key-clause-keeps
returns-in_err-key-clause-keeps g c = keeps_all _ _ _ c.in_ok-opening.ensures.keeps (keeps_all _ _ _ c.in_ok-found.ensures.keeps c.in_err-key.ensures.keeps)

pub returns-clause-keeps : goal.returns-clause-keeps
returns-clause-keeps g c = keeps_all _ _ _ c.in_ok-opening.ensures.keeps (keeps_all _ _ _ c.in_ok-found.ensures.keeps c.in_ok-key.ensures.keeps)
