use Rattle.std.proofs.Common.{◌++◌, ◌∙◌, ap, sym}
use Rattle.std.proofs.lemmas.List.{append-nil}
use Rattle.cck_path.specs.Bytes.{lists_of}
use Rattle.cck_files.specs.Calls.{Rose}
use Rattle.cck_compiler.proofs.ExtraFiles.{libraries_listed, no_libraries}
use Rattle.cck_compiler.proofs.extra_files.push_libraries.Goals as goal

pub returns-in_ok-push_listed-in-Ok-clause-pushed : goal.returns-in_ok-push_listed-in-Ok-clause-pushed
returns-in_ok-push_listed-in-Ok-clause-pushed g c =
    rw (← libraries_listed (g.F.Files.file_map c.args.files.now) c.args.folder.now (lists_of c.deref.result.now) c.in-Ok.ensures.folder (ap lists_of c.deref.ensures.value ∙ c.in-Ok.ensures.names))
    c.in_ok-push_listed-in-Ok.ensures

pub returns-in_default-clause-pushed : goal.returns-in_default-clause-pushed
returns-in_default-clause-pushed g c =
    sym (append-nil (lists_of c.args.all.now.items))
    ∙ ap (λ paths. lists_of c.args.all.now.items ++ paths) (sym (no_libraries (g.F.Files.file_map c.args.files.now) c.args.folder.now
    (Rose (g.F.Files.faults c.args.files.now) (g.F.Files.faults c.sorted_names.new.files)) c.in-Err.error c.in_default.not-Memory c.in_default.not-Fault c.in-Err.ensures.outcome))
