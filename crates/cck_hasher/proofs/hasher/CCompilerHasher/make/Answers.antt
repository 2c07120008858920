use Rattle.std.proofs.Common.{◌∙◌, ap, map, option_map, refl, sym}
use Rattle.std.proofs.lemmas.Result.{err_from_is_err_and}
use Rattle.std.specs.Prelude.{string_bytes}
use Rattle.cck_files.proofs.CallsLemmas.{rose_earlier, keeps_all, keeps_itself}
use Rattle.cck_files.specs.Calls.{Rose}
use Rattle.cck_path.specs.Text.{join_path}
use Rattle.cck_hasher.proofs.Made.{from_input, stop_input, stop_memory, stop_text, without_key}
use Rattle.cck_hasher.proofs.Widen.{wide_makes}
use Rattle.cck_hasher.proofs.Reasons.{input_reason, text_reason, wide_if}
use Rattle.cck_hasher.specs.Conditions.{call_under, given_of, world_under}
use Rattle.cck_hasher.specs.Keys.{printed}
use Rattle.cck_hasher.specs.Opening.{text_of}
use Rattle.cck_hasher.proofs.hasher.CCompilerHasher.make.Goals as goal

pub returns-in_err-input-clause-makes : goal.returns-in_err-input-clause-makes
returns-in_err-input-clause-makes g c =
    let p = err_from_is_err_and c.from_residual.result c.from_residual.ensures.1 in
    rw (p.1, p.2, c.in_err-input.ensures.errors) (stop_memory _ _ _ _ _ _ refl)

pub returns-in-Err-clause-makes : goal.returns-in-Err-clause-makes
returns-in-Err-clause-makes g c =
    let w = world_under g.H.HashState.hash g.I.CCompilerImpl.compiler (given_of c.args.conditions.now) in
    let call = call_under g.I.CCompilerImpl.value (g.F.Files.file_map c.args.files.now) c.args.self.now (given_of c.args.conditions.now) in
    let F = Rose (g.F.Files.faults c.args.files.now) (g.F.Files.faults c.read_contents.new.files) in
    rw c.input_error.ensures
    (stop_input w g.S.PreprocessorStore.store call F c.args.store.now c.in-Err.error (sym c.needs_c_preprocessing.ensures ∙ c.if-not-needs_c_preprocessing.true)
    (rw (c.deref-then-not-needs_c_preprocessing.ensures.value, c.in_ok-input.ensures.bytes, c.deref.ensures.value) at c.in-Err.ensures.outcome))

pub returns-in-Err-preprocess-clause-makes : goal.returns-in-Err-preprocess-clause-makes
unfolding printed
returns-in-Err-preprocess-clause-makes g c =
    let w = world_under g.H.HashState.hash g.I.CCompilerImpl.compiler (given_of c.args.conditions.now) in
    let call = call_under g.I.CCompilerImpl.value (g.F.Files.file_map c.args.files.now) c.args.self.now (given_of c.args.conditions.now) in
    let F = Rose (g.F.Files.faults c.args.files.now) (g.F.Files.faults c.preprocess.new.files) in
    rw c.text_error.ensures
    (stop_text w g.S.PreprocessorStore.store call F c.args.store.now c.in-Err-preprocess.error _ (sym c.needs_c_preprocessing.ensures ∙ c.if-not-needs_c_preprocessing.false)
    (rw c.deref-2.ensures.value refl) c.in-Err-preprocess.ensures.outcome)

pub returns-clause-makes : goal.returns-clause-makes
returns-clause-makes g c =
    let w = world_under g.H.HashState.hash g.I.CCompilerImpl.compiler (given_of c.args.conditions.now) in
    let call = call_under g.I.CCompilerImpl.value (g.F.Files.file_map c.args.files.now) c.args.self.now (given_of c.args.conditions.now) in
    let before = g.F.Files.faults c.args.files.now in
    let middle = g.F.Files.faults c.preprocess.new.files in
    let after = g.F.Files.faults c.walk_and_put.new.files in
    wide_makes w call (Rose middle after) (Rose before after) (rose_earlier before middle after c.in-Ok-preprocess.ensures.keeps.not_lower) g.S.PreprocessorStore.store c.args.store.now _
    c.walk_and_put.new.store (rw c.in-Ok-preprocess.ensures.keeps.same_map at c.walk_and_put.ensures.makes)

pub returns-in-Err-clause-reason : goal.returns-in-Err-clause-reason
returns-in-Err-clause-reason g c =
    let w = world_under g.H.HashState.hash g.I.CCompilerImpl.compiler (given_of c.args.conditions.now) in
    let call = call_under g.I.CCompilerImpl.value (g.F.Files.file_map c.args.files.now) c.args.self.now (given_of c.args.conditions.now) in
    let F = Rose (g.F.Files.faults c.args.files.now) (g.F.Files.faults c.read_contents.new.files) in
    rw c.input_error.ensures
    (input_reason w call F c.in-Err.error
    (rw (c.deref-then-not-needs_c_preprocessing.ensures.value, c.in_ok-input.ensures.bytes, c.deref.ensures.value) at c.in-Err.ensures.outcome))

pub returns-in-Err-preprocess-clause-reason : goal.returns-in-Err-preprocess-clause-reason
returns-in-Err-preprocess-clause-reason g c =
    let w = world_under g.H.HashState.hash g.I.CCompilerImpl.compiler (given_of c.args.conditions.now) in
    let call = call_under g.I.CCompilerImpl.value (g.F.Files.file_map c.args.files.now) c.args.self.now (given_of c.args.conditions.now) in
    let F = Rose (g.F.Files.faults c.args.files.now) (g.F.Files.faults c.preprocess.new.files) in
    rw c.text_error.ensures (text_reason w call F c.in-Err-preprocess.error)

pub returns-clause-reason : goal.returns-clause-reason
returns-clause-reason g c =
    let w = world_under g.H.HashState.hash g.I.CCompilerImpl.compiler (given_of c.args.conditions.now) in
    let call = call_under g.I.CCompilerImpl.value (g.F.Files.file_map c.args.files.now) c.args.self.now (given_of c.args.conditions.now) in
    let before = g.F.Files.faults c.args.files.now in
    let middle = g.F.Files.faults c.preprocess.new.files in
    let after = g.F.Files.faults c.walk_and_put.new.files in
    wide_if (Rose middle after) (Rose before after) (rose_earlier before middle after c.in-Ok-preprocess.ensures.keeps.not_lower) w call _
    (rw c.in-Ok-preprocess.ensures.keeps.same_map at c.walk_and_put.ensures.reason)

pub returns-in_err-plain_key-clause-makes : goal.returns-in_err-plain_key-clause-makes
returns-in_err-plain_key-clause-makes g c =
    let p = err_from_is_err_and c.from_residual-in_err-plain_key.result c.from_residual-in_err-plain_key.ensures.1 in
    rw (p.1, p.2) (stop_memory _ _ _ _ _ _ refl)

pub returns-then-not-needs_c_preprocessing-clause-makes : goal.returns-then-not-needs_c_preprocessing-clause-makes
returns-then-not-needs_c_preprocessing-clause-makes g c =
    let w = world_under g.H.HashState.hash g.I.CCompilerImpl.compiler (given_of c.args.conditions.now) in
    let call = call_under g.I.CCompilerImpl.value (g.F.Files.file_map c.args.files.now) c.args.self.now (given_of c.args.conditions.now) in
    let F = Rose (g.F.Files.faults c.args.files.now) (g.F.Files.faults c.read_contents.new.files) in
    from_input w g.S.PreprocessorStore.store call F c.args.store.now c.in_ok-plain_key.field-0 (map string_bytes c.args.opening.now.extra_hashes.items) c.in-Ok.text.items
    (sym c.needs_c_preprocessing.ensures ∙ c.if-not-needs_c_preprocessing.true) c.requires.extra
    (rw (c.deref-then-not-needs_c_preprocessing.ensures.value, c.in_ok-input.ensures.bytes, c.deref.ensures.value) at c.in-Ok.ensures.outcome)
    (rw (c.deref-then-not-needs_c_preprocessing-2.ensures.value, c.deref-then-not-needs_c_preprocessing-3.ensures.value) at c.in_ok-plain_key.ensures)

pub returns-in_err-plain_key-2-clause-makes : goal.returns-in_err-plain_key-2-clause-makes
returns-in_err-plain_key-2-clause-makes g c =
    let p = err_from_is_err_and c.from_residual-in_err-plain_key-2.result c.from_residual-in_err-plain_key-2.ensures.1 in
    rw (p.1, p.2) (stop_memory _ _ _ _ _ _ refl)

pub returns-in_default-clause-makes : goal.returns-in_default-clause-makes
unfolding printed
returns-in_default-clause-makes g c =
    let w = world_under g.H.HashState.hash g.I.CCompilerImpl.compiler (given_of c.args.conditions.now) in
    let call = call_under g.I.CCompilerImpl.value (g.F.Files.file_map c.args.files.now) c.args.self.now (given_of c.args.conditions.now) in
    let F = Rose (g.F.Files.faults c.args.files.now) (g.F.Files.faults c.preprocess.new.files) in
    without_key w g.S.PreprocessorStore.store call F c.args.store.now c.in_ok-plain_key-2.field-0 (map string_bytes c.args.opening.now.extra_hashes.items) c.in-Ok-preprocess.text.items
    (sym c.needs_c_preprocessing.ensures ∙ c.if-not-needs_c_preprocessing.false) c.requires.extra (rw c.deref-2.ensures.value at c.in-Ok-preprocess.ensures.outcome)
    (c.requires.key ∙ ap (option_map text_of) c.in_default.is)
    (rw (c.deref-in_default.ensures.value, c.deref-in_default-2.ensures.value) at c.in_ok-plain_key-2.ensures)

pub walk_and_put-requires : goal.walk_and_put-requires
unfolding printed
walk_and_put-requires g c = rw c.in-Ok-preprocess.ensures.keeps.same_map record {
  path = c.deref-3.ensures.value ∙ c.in_ok-input.ensures.bytes ∙ ap (join_path c.args.conditions.now.cwd.now) c.deref.ensures.value;
  key = rw c.as_str.ensures.value (c.requires.key ∙ ap (option_map text_of) c.in-Some.is);
  extra = rw c.deref-4.ensures.value c.requires.extra;
  first = sym c.needs_c_preprocessing.ensures ∙ c.if-not-needs_c_preprocessing.false;
  prints = rw (c.deref-2.ensures.value, sym c.deref-5.ensures.value) at c.in-Ok-preprocess.ensures.outcome;
}

pub returns-in_err-input-clause-keeps : goal.returns-in_err-input-clause-keeps
returns-in_err-input-clause-keeps g c = keeps_itself c.args.files.now

pub returns-in-Err-clause-keeps : goal.returns-in-Err-clause-keeps
returns-in-Err-clause-keeps g c = c.in-Err.ensures.keeps

pub returns-in_err-plain_key-clause-keeps : goal.returns-in_err-plain_key-clause-keeps
returns-in_err-plain_key-clause-keeps g c = c.in-Ok.ensures.keeps

pub returns-then-not-needs_c_preprocessing-clause-keeps : goal.returns-then-not-needs_c_preprocessing-clause-keeps
returns-then-not-needs_c_preprocessing-clause-keeps g c = c.in-Ok.ensures.keeps

pub returns-in-Err-preprocess-clause-keeps : goal.returns-in-Err-preprocess-clause-keeps
returns-in-Err-preprocess-clause-keeps g c = c.in-Err-preprocess.ensures.keeps

pub returns-in_err-plain_key-2-clause-keeps : goal.returns-in_err-plain_key-2-clause-keeps
returns-in_err-plain_key-2-clause-keeps g c = c.in-Ok-preprocess.ensures.keeps

pub returns-in_default-clause-keeps : goal.returns-in_default-clause-keeps
returns-in_default-clause-keeps g c = c.in-Ok-preprocess.ensures.keeps

pub returns-clause-keeps : goal.returns-clause-keeps
returns-clause-keeps g c = keeps_all _ _ _ c.in-Ok-preprocess.ensures.keeps c.walk_and_put.ensures.keeps
