use Rattle.std.proofs.Common.{drop, refl, sym, ap, length, subst}
use Rattle.std.proofs.lemmas.Bool.{eqb-true, eqb-false}
use Rattle.std.proofs.lemmas.List.{nil_from_length}
use Rattle.cck_files.proofs.CallsLemmas.{calls_among}
use Rattle.cck_files.specs.Calls.{Rose, none}
use Rattle.cck_include.proofs.Cuts.{slice_from}
use Rattle.cck_include.specs.Lines.{IsUnnamedTo}
use Rattle.jiff.specs.Words.{plain_zone}
use Rattle.cck_hasher.specs.Decided.{context_in}
use Rattle.cck_hasher.proofs.LineLemmas.{IsReadAt, goes_on, line_looked_for, stops, unnamed, unwritten}
use Rattle.cck_hasher.proofs.line.process_preprocessor_line.Goals as goal

pub returns-in-Unnamed-clause-outcome : goal.returns-in-Unnamed-clause-outcome
returns-in-Unnamed-clause-outcome g c =
    let F = g.F.Files in
    let x = context_in g.H.HashState.hash c.args.config c.args.moment (plain_zone c.args.zone.now) c.args.vars.now (F.file_map c.args.files.now) c.args.input_file.now c.args.cwd.now in
    unnamed x (Rose (F.faults c.args.files.now) (F.faults c.args.files.now)) (drop c.args.start c.args.text.now) c.args.start c.args.hash_start c.args.records.now c.in-Unnamed.end
    (subst (λ t. IsUnnamedTo t c.in-Unnamed.end) (slice_from c.args.text.now c.args.start) c.in-Unnamed.ensures)

pub returns-then-is_empty-clause-outcome : goal.returns-then-is_empty-clause-outcome
returns-then-is_empty-clause-outcome g c =
    let F = g.F.Files in
    let x = context_in g.H.HashState.hash c.args.config c.args.moment (plain_zone c.args.zone.now) c.args.vars.now (F.file_map c.args.files.now) c.args.input_file.now c.args.cwd.now in
    let n = c.in-Named in
    unwritten x (Rose (F.faults c.args.files.now) (F.faults c.args.files.now)) (drop c.args.start c.args.text.now) c.args.start c.args.hash_start c.args.records.now n.begin n.end n.name.now n.is_system
    (subst (λ t. IsReadAt t n.begin n.end n.name.now n.is_system) (slice_from c.args.text.now c.args.start) n.ensures) (nil_from_length n.name.now (eqb-true _ 0 (sym c.if-is_empty.ensures)))

pub returns-in-Ok-true-clause-outcome : goal.returns-in-Ok-true-clause-outcome
returns-in-Ok-true-clause-outcome g c =
    let F = g.F.Files in
    let x = context_in g.H.HashState.hash c.args.config c.args.moment (plain_zone c.args.zone.now) c.args.vars.now (F.file_map c.args.files.now) c.args.input_file.now c.args.cwd.now in
    let n = c.in-Named in
    goes_on x (Rose (F.faults c.args.files.now) (F.faults c.take_name.new.files)) (drop c.args.start c.args.text.now) c.args.start c.args.hash_start c.args.records.now n.begin n.end n.name.now n.is_system
    (subst (λ t. IsReadAt t n.begin n.end n.name.now n.is_system) (slice_from c.args.text.now c.args.start) n.ensures) c.take_name.new.records
    (λ none. eqb-false _ 0 (sym c.if-is_empty.ensures) (ap length none)) (rw c.in-Ok-true.field-0-test at c.in-Ok-true.ensures.outcome)

pub returns-in-Ok-false-clause-outcome : goal.returns-in-Ok-false-clause-outcome
returns-in-Ok-false-clause-outcome g c =
    let F = g.F.Files in
    let x = context_in g.H.HashState.hash c.args.config c.args.moment (plain_zone c.args.zone.now) c.args.vars.now (F.file_map c.args.files.now) c.args.input_file.now c.args.cwd.now in
    let n = c.in-Named in
    stops x (Rose (F.faults c.args.files.now) (F.faults c.take_name.new.files)) (drop c.args.start c.args.text.now) c.args.start c.args.hash_start c.args.records.now n.begin n.end n.name.now n.is_system
    (subst (λ t. IsReadAt t n.begin n.end n.name.now n.is_system) (slice_from c.args.text.now c.args.start) n.ensures) c.take_name.new.records
    (λ none. eqb-false _ 0 (sym c.if-is_empty.ensures) (ap length none)) (rw c.in-Ok-false.field-0-test at c.in-Ok-false.ensures.outcome)

pub returns-in-Ok-true-clause-calls : goal.returns-in-Ok-true-clause-calls
returns-in-Ok-true-clause-calls g c =
    let F = g.F.Files in
    let x = context_in g.H.HashState.hash c.args.config c.args.moment (plain_zone c.args.zone.now) c.args.vars.now (F.file_map c.args.files.now) c.args.input_file.now c.args.cwd.now in
    let n = c.in-Named in
    calls_among _ _ _ _ (line_looked_for x (Rose (F.faults c.args.files.now) (F.faults c.take_name.new.files)) (drop c.args.start c.args.text.now) c.args.start c.args.hash_start c.args.records.now n.begin n.end n.name.now n.is_system
    (subst (λ t. IsReadAt t n.begin n.end n.name.now n.is_system) (slice_from c.args.text.now c.args.start) n.ensures)) c.take_name.ensures.calls

pub returns-in-Ok-false-clause-calls : goal.returns-in-Ok-false-clause-calls
returns-in-Ok-false-clause-calls g c =
    let F = g.F.Files in
    let x = context_in g.H.HashState.hash c.args.config c.args.moment (plain_zone c.args.zone.now) c.args.vars.now (F.file_map c.args.files.now) c.args.input_file.now c.args.cwd.now in
    let n = c.in-Named in
    calls_among _ _ _ _ (line_looked_for x (Rose (F.faults c.args.files.now) (F.faults c.take_name.new.files)) (drop c.args.start c.args.text.now) c.args.start c.args.hash_start c.args.records.now n.begin n.end n.name.now n.is_system
    (subst (λ t. IsReadAt t n.begin n.end n.name.now n.is_system) (slice_from c.args.text.now c.args.start) n.ensures)) c.take_name.ensures.calls

pub returns-in-Err-clause-calls : goal.returns-in-Err-clause-calls
returns-in-Err-clause-calls g c =
    let F = g.F.Files in
    let x = context_in g.H.HashState.hash c.args.config c.args.moment (plain_zone c.args.zone.now) c.args.vars.now (F.file_map c.args.files.now) c.args.input_file.now c.args.cwd.now in
    let n = c.in-Named in
    calls_among _ _ _ _ (line_looked_for x (Rose (F.faults c.args.files.now) (F.faults c.take_name.new.files)) (drop c.args.start c.args.text.now) c.args.start c.args.hash_start c.args.records.now n.begin n.end n.name.now n.is_system
    (subst (λ t. IsReadAt t n.begin n.end n.name.now n.is_system) (slice_from c.args.text.now c.args.start) n.ensures)) c.take_name.ensures.calls

pub returns-then-is_empty-clause-calls : goal.returns-then-is_empty-clause-calls
returns-then-is_empty-clause-calls g c = none refl

pub returns-in-Unnamed-clause-calls : goal.returns-in-Unnamed-clause-calls
returns-in-Unnamed-clause-calls g c = none refl

pub returns-in-Malformed-clause-calls : goal.returns-in-Malformed-clause-calls
returns-in-Malformed-clause-calls g c = none refl
