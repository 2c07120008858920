use Rattle.std.proofs.Common.{Ok, Err, ◌∙◌, ap, length, refl, sym}
use Rattle.std.proofs.lemmas.Result.{err_from_is_err_and}
use Rattle.std.specs.Prelude.{◌==◌}
use Rattle.cck_files.proofs.CallsLemmas.{rose_earlier, keeps_all}
use Rattle.cck_files.specs.Calls.{Rose}
use Rattle.cck_include.specs.Gathered.{digested_in}
use Rattle.cck_hasher.proofs.Made.{accepted_walk, empty_list, nothing_mapped, nothing_named, put_for, refused_for, refused_walk, some_list, stop_memory, stop_walked}
use Rattle.cck_hasher.proofs.Walked.{walked_for}
use Rattle.cck_hasher.proofs.Widen.{wide_makes}
use Rattle.cck_hasher.specs.Conditions.{call_under, given_of, world_under}
use Rattle.cck_hasher.specs.Included.{digested_of}
use Rattle.cck_hasher.proofs.hasher.CCompilerHasher.walk_and_put.Goals as goal

pub returns-in_err-walk-clause-makes : goal.returns-in_err-walk-clause-makes
returns-in_err-walk-clause-makes g c =
    let F = Rose (g.F.Files.faults c.args.files.now) (g.F.Files.faults c.process_preprocessed_file.new.files) in
    let p = err_from_is_err_and c.from_residual.result c.from_residual.ensures.1 in
    rw (p.1, p.2) (stop_walked _ _ _ F c.args.input.now c.requires c.args.store.now c.in_err-walk.field-0.0
    (walked_for g.H.HashState.hash g.I.CCompilerImpl.compiler g.I.CCompilerImpl.value (g.F.Files.file_map c.args.files.now) c.args.self.now c.args.conditions.now c.args.input.now c.requires F
    (Err c.in_err-walk.field-0.0) c.in_err-walk.ensures.outcome))

pub returns-in_err-key-clause-makes : goal.returns-in_err-key-clause-makes
returns-in_err-key-clause-makes g c =
    let p = err_from_is_err_and c.from_residual-in_err-key.result c.from_residual-in_err-key.ensures.1 in
    rw (p.1, p.2) (stop_memory _ _ _ _ _ _ refl)

pub returns-in-Refused-clause-makes : goal.returns-in-Refused-clause-makes
returns-in-Refused-clause-makes g c =
    let w = world_under g.H.HashState.hash g.I.CCompilerImpl.compiler (given_of c.args.conditions.now) in
    let call = call_under g.I.CCompilerImpl.value (g.F.Files.file_map c.args.files.now) c.args.self.now (given_of c.args.conditions.now) in
    let F = Rose (g.F.Files.faults c.args.files.now) (g.F.Files.faults c.process_preprocessed_file.new.files) in
    refused_for w g.S.PreprocessorStore.store call F c.args.input.now c.requires c.args.store.now c.in_ok-key.key
    (refused_walk w call c.args.input.now.text.now F c.in_ok-walk.walk c.in-Refused.is
    (walked_for g.H.HashState.hash g.I.CCompilerImpl.compiler g.I.CCompilerImpl.value (g.F.Files.file_map c.args.files.now) c.args.self.now c.args.conditions.now c.args.input.now c.requires F
    (Ok c.in_ok-walk.walk) c.in_ok-walk.ensures.outcome))
    c.in_ok-key.ensures

pub returns-in_err-included-clause-makes : goal.returns-in_err-included-clause-makes
returns-in_err-included-clause-makes g c =
    let p = err_from_is_err_and c.from_residual-in_err-included.result c.from_residual-in_err-included.ensures.1 in
    rw (p.1, p.2) (stop_memory _ _ _ _ _ _ refl)

pub returns-then-is_empty-clause-makes : goal.returns-then-is_empty-clause-makes
returns-then-is_empty-clause-makes g c =
    let w = world_under g.H.HashState.hash g.I.CCompilerImpl.compiler (given_of c.args.conditions.now) in
    let call = call_under g.I.CCompilerImpl.value (g.F.Files.file_map c.args.files.now) c.args.self.now (given_of c.args.conditions.now) in
    let F = Rose (g.F.Files.faults c.args.files.now) (g.F.Files.faults c.process_preprocessed_file.new.files) in
    let (walk, recorded) = accepted_walk w call c.args.input.now.text.now F c.in_ok-walk.walk c.in-Accepted.records c.in-Accepted.is
    (walked_for g.H.HashState.hash g.I.CCompilerImpl.compiler g.I.CCompilerImpl.value (g.F.Files.file_map c.args.files.now) c.args.self.now c.args.conditions.now c.args.input.now c.requires F
    (Ok c.in_ok-walk.walk) c.in_ok-walk.ensures.outcome) in
    let none = empty_list c.in_ok-included.included.items c.is_empty.result (c.is_empty.ensures ∙ ap (λ xs. length xs == 0) c.deref-included.ensures.value) c.if-is_empty.true in
    nothing_named w g.S.PreprocessorStore.store call F c.args.input.now c.requires c.args.store.now c.in_ok-key.key c.in_ok-key.ensures walk
    (digested_of c.in-Accepted.records.items) (sym c.in_ok-included.ensures ∙ ap digested_in none) recorded

pub returns-in_err-put_result-clause-makes : goal.returns-in_err-put_result-clause-makes
returns-in_err-put_result-clause-makes g c =
    let p = err_from_is_err_and c.from_residual-in_err-put_result.result c.from_residual-in_err-put_result.ensures.1 in
    rw (p.1, p.2) (stop_memory _ _ _ _ _ _ c.in_err-put_result.ensures.put)

pub returns-clause-makes : goal.returns-clause-makes
returns-clause-makes g c =
    let st = g.S.PreprocessorStore.store in
    let w = world_under g.H.HashState.hash g.I.CCompilerImpl.compiler (given_of c.args.conditions.now) in
    let call = call_under g.I.CCompilerImpl.value (g.F.Files.file_map c.args.files.now) c.args.self.now (given_of c.args.conditions.now) in
    let before = g.F.Files.faults c.args.files.now in
    let middle = g.F.Files.faults c.process_preprocessed_file.new.files in
    let after = g.F.Files.faults c.put_result.new.files in
    let (walk, recorded) = accepted_walk w call c.args.input.now.text.now (Rose before middle) c.in_ok-walk.walk c.in-Accepted.records c.in-Accepted.is
    (walked_for g.H.HashState.hash g.I.CCompilerImpl.compiler g.I.CCompilerImpl.value (g.F.Files.file_map c.args.files.now) c.args.self.now c.args.conditions.now c.args.input.now c.requires (Rose before middle)
    (Ok c.in_ok-walk.walk) c.in_ok-walk.ensures.outcome) in
    let some = some_list c.in_ok-included.included.items c.is_empty.result (c.is_empty.ensures ∙ ap (λ xs. length xs == 0) c.deref-included.ensures.value) c.if-is_empty.false in
    wide_makes w call (Rose middle after) (Rose before after) (rose_earlier before middle after c.in_ok-walk.ensures.keeps.not_lower) st c.args.store.now _ c.put_result.new.store
    (put_for w st call (Rose before middle) c.args.input.now c.requires (digested_of c.in-Accepted.records.items) recorded (Rose middle after)
    c.args.store.now c.put_result.new.store c.in_ok-key.key c.in_ok-put_result.field-0 c.in_ok-key.ensures walk
    (λ none. some (nothing_mapped _ c.in_ok-included.included.items (c.in_ok-included.ensures ∙ none)))
    (rw (c.deref-included.ensures.value, c.in_ok-included.ensures, c.in_ok-walk.ensures.keeps.same_map, c.as_str.ensures.value) at c.in_ok-put_result.ensures.put))

pub returns-in_err-walk-clause-keeps : goal.returns-in_err-walk-clause-keeps
returns-in_err-walk-clause-keeps g c = c.in_err-walk.ensures.keeps

pub returns-in_err-key-clause-keeps : goal.returns-in_err-key-clause-keeps
returns-in_err-key-clause-keeps g c = c.in_ok-walk.ensures.keeps

pub returns-in-Refused-clause-keeps : goal.returns-in-Refused-clause-keeps
returns-in-Refused-clause-keeps g c = c.in_ok-walk.ensures.keeps

pub returns-in_err-included-clause-keeps : goal.returns-in_err-included-clause-keeps
returns-in_err-included-clause-keeps g c = c.in_ok-walk.ensures.keeps

pub returns-then-is_empty-clause-keeps : goal.returns-then-is_empty-clause-keeps
returns-then-is_empty-clause-keeps g c = c.in_ok-walk.ensures.keeps

pub returns-in_err-put_result-clause-keeps : goal.returns-in_err-put_result-clause-keeps
returns-in_err-put_result-clause-keeps g c = keeps_all _ _ _ c.in_ok-walk.ensures.keeps c.in_err-put_result.ensures.keeps

pub returns-clause-keeps : goal.returns-clause-keeps
returns-clause-keeps g c = keeps_all _ _ _ c.in_ok-walk.ensures.keeps c.in_ok-put_result.ensures.keeps
