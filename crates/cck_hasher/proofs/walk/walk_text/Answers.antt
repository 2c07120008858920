use Rattle.std.proofs.Common.{◌≡◌, ◌⊎◌, ◌∷◌, ◌∙◌, [], Some, inl, refl, true, ap}
use Rattle.cck_files.proofs.CallsLemmas.{keeps_all, keeps_itself, rose_earlier}
use Rattle.cck_files.specs.Calls.{AreCalls, Rose, none}
use Rattle.cck_include.specs.Markers.{Yields}
use Rattle.cck_include.specs.Marks.{Malformed, Name, Refusal}
use Rattle.cck_hasher.proofs.SeenLemmas.{all_pass}
use Rattle.cck_hasher.proofs.WalkLemmas.{accepted, at_start, calls_on, malformed, passed_on, refused, error_by_fault}
use Rattle.cck_hasher.specs.Decided.{IsLookedFor, Refuses, after, is_looked_for, outcome}
use Rattle.cck_hasher.specs.WalkContext.{context_of}
use Rattle.cck_hasher.proofs.walk.walk_text.Goals as goal

pub returns-in-Refusal-clause-outcome : goal.returns-in-Refusal-clause-outcome
returns-in-Refusal-clause-outcome g c =
    let F = g.F.Files in
    let x = context_of g.H.HashState.hash c.args.context.now (F.file_map c.args.files.now) in
    let gives : Yields c.loop-mark.mark-iterator (Refusal ∷ []) c.next.new.self = rw c.in-Refusal.is at c.in-Some.ensures.steps in
    inl (refused x c.args.text.now c.loop-mark.mark-iterator c.loop-mark.records c.loop-mark.invariant.passed c.next.new.self gives)

pub returns-in-Malformed-clause-outcome : goal.returns-in-Malformed-clause-outcome
returns-in-Malformed-clause-outcome g c =
    let F = g.F.Files in
    let x = context_of g.H.HashState.hash c.args.context.now (F.file_map c.args.files.now) in
    let gives : Yields c.loop-mark.mark-iterator (Malformed ∷ []) c.next.new.self = rw c.in-Malformed.is at c.in-Some.ensures.steps in
    malformed x c.args.text.now c.loop-mark.mark-iterator c.loop-mark.records c.loop-mark.invariant.passed c.next.new.self gives

pub loop-mark-init : goal.loop-mark-init
loop-mark-init g c =
    let F = g.F.Files in
    let x = context_of g.H.HashState.hash c.args.context.now (F.file_map c.args.files.now) in
    record {
      keeps = keeps_itself c.args.files.now;
      calls = none refl;
      settled = λ name is_system has. absurd (c.new-seen.ensures name is_system has);
      passed = at_start x c.args.text.now c.into_iter-mark-iterator.result c.new-records.result (c.into_iter-mark-iterator.ensures.into_iter_gives ∙ c.new-mark-items.ensures) c.new-records.ensures;
    }

pub loop-mark-preserved : goal.loop-mark-preserved
loop-mark-preserved g c =
    let F = g.F.Files in
    let x = context_of g.H.HashState.hash c.args.context.now (F.file_map c.args.files.now) in
    let name = c.in-Name-2.name.now in
    let held = c.loop-mark.records in
    let gives : Yields c.loop-mark.mark-iterator (Name name c.in-Name-2.is_system ∷ []) c.next.new.self = rw c.in-Name-2.is at c.in-Some.ensures.steps in
    let does : after held (outcome x held name c.in-Name-2.is_system) ≡ Some c.take_name.new.records =
    rw (← c.loop-mark.invariant.keeps.same_map) (rw c.in-Ok-true.field-0-test at c.in-Ok-true.ensures.outcome) in
    let calls : AreCalls F.is_call (IsLookedFor x held name c.in-Name-2.is_system) c.loop-mark.files c.take_name.new.files =
    rw (← c.loop-mark.invariant.keeps.same_map) c.take_name.ensures.calls in
    record {
      keeps = keeps_all c.args.files.now c.loop-mark.files c.take_name.new.files c.loop-mark.invariant.keeps c.in-Ok-true.ensures.keeps;
      calls = calls_on x c.args.text.now c.loop-mark.mark-iterator held c.loop-mark.invariant.passed c.next.new.self name c.in-Name-2.is_system gives
          c.args.files.now c.loop-mark.files c.take_name.new.files c.loop-mark.invariant.calls calls;
      passed = passed_on x c.args.text.now c.loop-mark.mark-iterator held c.loop-mark.invariant.passed c.next.new.self name c.in-Name-2.is_system gives c.take_name.new.records does;
      settled = all_pass x held c.take_name.new.records c.loop-mark.seen c.insert.new.self name c.in-Name-2.is_system c.loop-mark.invariant.settled does c.insert.ensures;
    }

pub loop-mark-preserved-then-contains : goal.loop-mark-preserved-then-contains
loop-mark-preserved-then-contains g c =
    let F = g.F.Files in
    let x = context_of g.H.HashState.hash c.args.context.now (F.file_map c.args.files.now) in
    let name = c.in-Name.name.now in
    let held = c.loop-mark.records in
    let gives : Yields c.loop-mark.mark-iterator (Name name c.in-Name.is_system ∷ []) c.next.new.self = rw c.in-Name.is at c.in-Some.ensures.steps in
    let does : after held (outcome x held name c.in-Name.is_system) ≡ Some held = ap (after held) (c.loop-mark.invariant.settled name c.in-Name.is_system (c.contains.ensures c.if-contains.true)) in
    record {
      keeps = c.loop-mark.invariant.keeps;
      calls = c.loop-mark.invariant.calls;
      passed = passed_on x c.args.text.now c.loop-mark.mark-iterator held c.loop-mark.invariant.passed c.next.new.self name c.in-Name.is_system gives held does;
      settled = c.loop-mark.invariant.settled;
    }

pub returns-in-Ok-false-clause-calls : goal.returns-in-Ok-false-clause-calls
returns-in-Ok-false-clause-calls g c =
    let F = g.F.Files in
    let x = context_of g.H.HashState.hash c.args.context.now (F.file_map c.args.files.now) in
    let name = c.in-Name-2.name.now in
    let held = c.loop-mark.records in
    let gives : Yields c.loop-mark.mark-iterator (Name name c.in-Name-2.is_system ∷ []) c.next.new.self = rw c.in-Name-2.is at c.in-Some.ensures.steps in
    let calls : AreCalls F.is_call (IsLookedFor x held name c.in-Name-2.is_system) c.loop-mark.files c.take_name.new.files =
    rw (← c.loop-mark.invariant.keeps.same_map) c.take_name.ensures.calls in
    calls_on x c.args.text.now c.loop-mark.mark-iterator held c.loop-mark.invariant.passed c.next.new.self name c.in-Name-2.is_system gives
    c.args.files.now c.loop-mark.files c.take_name.new.files c.loop-mark.invariant.calls calls

pub returns-in-Err-clause-calls : goal.returns-in-Err-clause-calls
returns-in-Err-clause-calls g c =
    let F = g.F.Files in
    let x = context_of g.H.HashState.hash c.args.context.now (F.file_map c.args.files.now) in
    let name = c.in-Name-2.name.now in
    let held = c.loop-mark.records in
    let gives : Yields c.loop-mark.mark-iterator (Name name c.in-Name-2.is_system ∷ []) c.next.new.self = rw c.in-Name-2.is at c.in-Some.ensures.steps in
    let calls : AreCalls F.is_call (IsLookedFor x held name c.in-Name-2.is_system) c.loop-mark.files c.take_name.new.files =
    rw (← c.loop-mark.invariant.keeps.same_map) c.take_name.ensures.calls in
    calls_on x c.args.text.now c.loop-mark.mark-iterator held c.loop-mark.invariant.passed c.next.new.self name c.in-Name-2.is_system gives
    c.args.files.now c.loop-mark.files c.take_name.new.files c.loop-mark.invariant.calls calls

pub returns-in-Ok-false-clause-outcome : goal.returns-in-Ok-false-clause-outcome
returns-in-Ok-false-clause-outcome g c =
    let F = g.F.Files in
    let x = context_of g.H.HashState.hash c.args.context.now (F.file_map c.args.files.now) in
    let name = c.in-Name-2.name.now in
    let held = c.loop-mark.records in
    let R = Rose (F.faults c.loop-mark.files) (F.faults c.take_name.new.files) in
    let S = Rose (F.faults c.args.files.now) (F.faults c.take_name.new.files) in
    let gives : Yields c.loop-mark.mark-iterator (Name name c.in-Name-2.is_system ∷ []) c.next.new.self = rw c.in-Name-2.is at c.in-Some.ensures.steps in
    let why : (c.take_name.new.records ≡ held) × ((outcome x held name c.in-Name-2.is_system ≡ Refuses) ⊎ (R × (is_looked_for x held name c.in-Name-2.is_system ≡ true))) =
    rw (← c.loop-mark.invariant.keeps.same_map) (rw c.in-Ok-false.field-0-test at c.in-Ok-false.ensures.outcome) in
    error_by_fault x c.args.text.now c.loop-mark.mark-iterator held c.loop-mark.invariant.passed c.next.new.self name c.in-Name-2.is_system gives R S
    (rose_earlier (F.faults c.args.files.now) (F.faults c.loop-mark.files) (F.faults c.take_name.new.files) c.loop-mark.invariant.keeps.not_lower) why.1

pub returns-in-Ok-clause-outcome : goal.returns-in-Ok-clause-outcome
returns-in-Ok-clause-outcome g c =
    let F = g.F.Files in
    let x = context_of g.H.HashState.hash c.args.context.now (F.file_map c.args.files.now) in
    (c.loop-mark.records, accepted x c.args.text.now c.loop-mark.mark-iterator c.loop-mark.records c.loop-mark.invariant.passed c.in-None.ensures.steps.0, c.in-Ok.ensures)
