use Rattle.std.proofs.Common.{◌∙◌, ap, refl, sym}
use Rattle.cck_files.specs.Calls.{none}
use Rattle.cck_path.specs.Path.{Path, components, joined, normal}
use Rattle.cck_hasher.proofs.NameLemmas.{named_calls}
use Rattle.cck_hasher.proofs.RecordLemmas.{normal_twice}
use Rattle.cck_hasher.specs.WalkContext.{context_of}
use Rattle.cck_hasher.proofs.name.take_name.Goals as goal

pub insert-requires : goal.insert-requires
insert-requires g c =
    let p : Path = joined (components c.args.context.now.cwd.now) (components c.args.name.now) in
    rw c.deref-in-Regular.ensures.value (ap normal c.in_ok-path.ensures ∙ normal_twice p ∙ sym c.in_ok-path.ensures)

pub returns-then-is_passed-clause-calls : goal.returns-then-is_passed-clause-calls
returns-then-is_passed-clause-calls g c = none refl

pub returns-in_err-path-clause-calls : goal.returns-in_err-path-clause-calls
returns-in_err-path-clause-calls g c = none refl

pub returns-then-contains-clause-calls : goal.returns-then-contains-clause-calls
returns-then-contains-clause-calls g c = none refl

pub returns-in_err-judge-clause-calls : goal.returns-in_err-judge-clause-calls
returns-in_err-judge-clause-calls g c =
    let F = g.F.Files in
    let x = context_of g.H.HashState.hash c.args.context.now (F.file_map c.args.files.now) in
    named_calls x c.args.records.now c.args.name.now c.args.is_system c.in_ok-path.path.items c.deref.result.now c.deref-else-contains.result.now c.in_ok-path.ensures c.deref.ensures.value c.deref-else-contains.ensures.value
    (sym c.if-is_passed.ensures) (sym c.if-contains.ensures) (sym c.if-is_same.ensures) c.deref-2.result.now c.deref-2.ensures.value c.args.files.now c.judge.new.files c.judge.ensures.calls

pub returns-in-Folder-clause-calls : goal.returns-in-Folder-clause-calls
returns-in-Folder-clause-calls g c =
    let F = g.F.Files in
    let x = context_of g.H.HashState.hash c.args.context.now (F.file_map c.args.files.now) in
    named_calls x c.args.records.now c.args.name.now c.args.is_system c.in_ok-path.path.items c.deref.result.now c.deref-else-contains.result.now c.in_ok-path.ensures c.deref.ensures.value c.deref-else-contains.ensures.value
    (sym c.if-is_passed.ensures) (sym c.if-contains.ensures) (sym c.if-is_same.ensures) c.deref-2.result.now c.deref-2.ensures.value c.args.files.now c.judge.new.files c.judge.ensures.calls

pub returns-in-Bad-clause-calls : goal.returns-in-Bad-clause-calls
returns-in-Bad-clause-calls g c =
    let F = g.F.Files in
    let x = context_of g.H.HashState.hash c.args.context.now (F.file_map c.args.files.now) in
    named_calls x c.args.records.now c.args.name.now c.args.is_system c.in_ok-path.path.items c.deref.result.now c.deref-else-contains.result.now c.in_ok-path.ensures c.deref.ensures.value c.deref-else-contains.ensures.value
    (sym c.if-is_passed.ensures) (sym c.if-contains.ensures) (sym c.if-is_same.ensures) c.deref-2.result.now c.deref-2.ensures.value c.args.files.now c.judge.new.files c.judge.ensures.calls

pub returns-in_err-insert-in-Regular-clause-calls : goal.returns-in_err-insert-in-Regular-clause-calls
returns-in_err-insert-in-Regular-clause-calls g c =
    let F = g.F.Files in
    let x = context_of g.H.HashState.hash c.args.context.now (F.file_map c.args.files.now) in
    named_calls x c.args.records.now c.args.name.now c.args.is_system c.in_ok-path.path.items c.deref.result.now c.deref-else-contains.result.now c.in_ok-path.ensures c.deref.ensures.value c.deref-else-contains.ensures.value
    (sym c.if-is_passed.ensures) (sym c.if-contains.ensures) (sym c.if-is_same.ensures) c.deref-2.result.now c.deref-2.ensures.value c.args.files.now c.judge.new.files c.judge.ensures.calls

pub returns-clause-calls : goal.returns-clause-calls
returns-clause-calls g c =
    let F = g.F.Files in
    let x = context_of g.H.HashState.hash c.args.context.now (F.file_map c.args.files.now) in
    named_calls x c.args.records.now c.args.name.now c.args.is_system c.in_ok-path.path.items c.deref.result.now c.deref-else-contains.result.now c.in_ok-path.ensures c.deref.ensures.value c.deref-else-contains.ensures.value
    (sym c.if-is_passed.ensures) (sym c.if-contains.ensures) (sym c.if-is_same.ensures) c.deref-2.result.now c.deref-2.ensures.value c.args.files.now c.judge.new.files c.judge.ensures.calls
