use Rattle.std.proofs.Common.{refl, sym, ◌∙◌}
use Rattle.std.proofs.lemmas.Result.{err_from_is_err_and}
use Rattle.cck_files.proofs.CallsLemmas.{rose_earlier, keeps_all}
use Rattle.cck_files.specs.Calls.{Rose}
use Rattle.cck_hasher.proofs.Opened.{extra_failed, open_with, open_without, paths_as, stop_input, texts_here, used}
use Rattle.cck_hasher.proofs.Widen.{wide_opening}
use Rattle.cck_hasher.proofs.Reasons.{extra_reason, key_reason, wide_reason}
use Rattle.cck_hasher.specs.Conditions.{call_under, given_of, world_under}
use Rattle.cck_hasher.proofs.hasher.CCompilerHasher.open.Goals as goal

pub returns-in_err-extra_hashes-clause-outcome : goal.returns-in_err-extra_hashes-clause-outcome
returns-in_err-extra_hashes-clause-outcome g c =
    let w = world_under g.H.HashState.hash g.I.CCompilerImpl.compiler (given_of c.args.conditions.now) in
    let call = call_under g.I.CCompilerImpl.value (g.F.Files.file_map c.args.files.now) c.args.self.now (given_of c.args.conditions.now) in
    let F = Rose (g.F.Files.faults c.args.files.now) (g.F.Files.faults c.hash_all.new.files) in
    let p = err_from_is_err_and c.from_residual.result c.from_residual.ensures.1 in
    rw (p.1, p.2)
    (extra_failed w call F c.in_err-extra_hashes.field-0.0 (rw (c.deref.ensures.value, paths_as c.args.self.now.parsed_args.extra_hash_files.items) at c.in_err-extra_hashes.ensures.outcome))

pub returns-then-not-uses_cache-clause-outcome : goal.returns-then-not-uses_cache-clause-outcome
returns-then-not-uses_cache-clause-outcome g c =
    let w = world_under g.H.HashState.hash g.I.CCompilerImpl.compiler (given_of c.args.conditions.now) in
    let call = call_under g.I.CCompilerImpl.value (g.F.Files.file_map c.args.files.now) c.args.self.now (given_of c.args.conditions.now) in
    open_without w call _ (sym (c.uses_cache.ensures ∙ used w call) ∙ c.if-not-uses_cache.true)
    (texts_here w call _ (rw (c.deref.ensures.value, paths_as c.args.self.now.parsed_args.extra_hash_files.items) at c.in_ok-extra_hashes.ensures.outcome)) refl

pub returns-in-Ok-clause-outcome : goal.returns-in-Ok-clause-outcome
returns-in-Ok-clause-outcome g c =
    let w = world_under g.H.HashState.hash g.I.CCompilerImpl.compiler (given_of c.args.conditions.now) in
    let call = call_under g.I.CCompilerImpl.value (g.F.Files.file_map c.args.files.now) c.args.self.now (given_of c.args.conditions.now) in
    open_with w call _ (sym (c.uses_cache.ensures ∙ used w call) ∙ c.if-not-uses_cache.false)
    (texts_here w call _ (rw (c.deref.ensures.value, paths_as c.args.self.now.parsed_args.extra_hash_files.items) at c.in_ok-extra_hashes.ensures.outcome))
    (rw (c.in_ok-extra_hashes.ensures.keeps.same_map, c.deref-2.ensures.value) at c.in-Ok.ensures.outcome)

pub returns-in-Err-clause-outcome : goal.returns-in-Err-clause-outcome
returns-in-Err-clause-outcome g c =
    let w = world_under g.H.HashState.hash g.I.CCompilerImpl.compiler (given_of c.args.conditions.now) in
    let call = call_under g.I.CCompilerImpl.value (g.F.Files.file_map c.args.files.now) c.args.self.now (given_of c.args.conditions.now) in
    let before = g.F.Files.faults c.args.files.now in
    let middle = g.F.Files.faults c.hash_all.new.files in
    let after = g.F.Files.faults c.key_of_input.new.files in
    wide_opening w call (Rose middle after) (Rose before after) (rose_earlier before middle after c.in_ok-extra_hashes.ensures.keeps.not_lower) _
    (stop_input w call (Rose middle after) c.in-Err.error _ (sym (c.uses_cache.ensures ∙ used w call) ∙ c.if-not-uses_cache.false)
    (texts_here w call _ (rw (c.deref.ensures.value, paths_as c.args.self.now.parsed_args.extra_hash_files.items) at c.in_ok-extra_hashes.ensures.outcome))
    (rw c.in_ok-extra_hashes.ensures.keeps.same_map at c.in-Err.ensures.outcome))

pub returns-in_err-extra_hashes-clause-reason : goal.returns-in_err-extra_hashes-clause-reason
returns-in_err-extra_hashes-clause-reason g c =
    let w = world_under g.H.HashState.hash g.I.CCompilerImpl.compiler (given_of c.args.conditions.now) in
    let call = call_under g.I.CCompilerImpl.value (g.F.Files.file_map c.args.files.now) c.args.self.now (given_of c.args.conditions.now) in
    let F = Rose (g.F.Files.faults c.args.files.now) (g.F.Files.faults c.hash_all.new.files) in
    let p = err_from_is_err_and c.from_residual.result c.from_residual.ensures.1 in
    rw (p.1, p.2)
    (extra_reason w call F c.in_err-extra_hashes.field-0.0 (rw (c.deref.ensures.value, paths_as c.args.self.now.parsed_args.extra_hash_files.items) at c.in_err-extra_hashes.ensures.outcome))

pub returns-in-Err-clause-reason : goal.returns-in-Err-clause-reason
returns-in-Err-clause-reason g c =
    let w = world_under g.H.HashState.hash g.I.CCompilerImpl.compiler (given_of c.args.conditions.now) in
    let call = call_under g.I.CCompilerImpl.value (g.F.Files.file_map c.args.files.now) c.args.self.now (given_of c.args.conditions.now) in
    let before = g.F.Files.faults c.args.files.now in
    let middle = g.F.Files.faults c.hash_all.new.files in
    let after = g.F.Files.faults c.key_of_input.new.files in
    wide_reason (Rose middle after) (Rose before after) (rose_earlier before middle after c.in_ok-extra_hashes.ensures.keeps.not_lower) w call _
    (key_reason w call (Rose middle after) c.in-Err.error (rw c.in_ok-extra_hashes.ensures.keeps.same_map at c.in-Err.ensures.outcome))

pub returns-in_err-extra_hashes-clause-keeps : goal.returns-in_err-extra_hashes-clause-keeps
returns-in_err-extra_hashes-clause-keeps g c = c.in_err-extra_hashes.ensures.keeps

pub returns-then-not-uses_cache-clause-keeps : goal.returns-then-not-uses_cache-clause-keeps
returns-then-not-uses_cache-clause-keeps g c = c.in_ok-extra_hashes.ensures.keeps

pub returns-in-Ok-clause-keeps : goal.returns-in-Ok-clause-keeps
returns-in-Ok-clause-keeps g c = keeps_all _ _ _ c.in_ok-extra_hashes.ensures.keeps c.in-Ok.ensures.keeps

pub returns-in-Err-clause-keeps : goal.returns-in-Err-clause-keeps
returns-in-Err-clause-keeps g c = keeps_all _ _ _ c.in_ok-extra_hashes.ensures.keeps c.in-Err.ensures.keeps
