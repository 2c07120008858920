use Rattle.std.proofs.Common.{◌∙◌, ap, sym}
use Rattle.cck_path.specs.Bytes.{lists_of, variables_of}
use Rattle.cck_compiler.specs.ExtraFiles.{library_folder}
use Rattle.cck_compiler.specs.Seen.{arguments_of}
use Rattle.cck_compiler.proofs.ExtraFiles.{added_libraries, added_named}
use Rattle.cck_compiler.proofs.extra_files.add_extra_files.Goals as goal

pub returns-in_ok-push_libraries-clause-added : goal.returns-in_ok-push_libraries-clause-added
returns-in_ok-push_libraries-clause-added g c =
    let variables = variables_of c.args.vars.now in
    added_libraries (g.F.Files.file_map c.args.files.now) variables (arguments_of c.args.args.now) c.deref-then-is_hip.result.now
    (lists_of c.push_named_files.new.all.items) (lists_of c.push_libraries.new.all.items)
    (sym c.if-is_hip.ensures) c.in_ok-push_named_files.ensures
    (c.deref-then-is_hip.ensures.value ∙ c.in_ok-folder.ensures ∙ ap (λ args. library_folder (lists_of args) variables) c.deref.ensures.value)
    c.in_ok-push_libraries.ensures.pushed

pub returns-else-is_hip-clause-added : goal.returns-else-is_hip-clause-added
returns-else-is_hip-clause-added g c =
    added_named (g.F.Files.file_map c.args.files.now) (variables_of c.args.vars.now) (arguments_of c.args.args.now) (lists_of c.push_named_files.new.all.items)
    (sym c.if-is_hip.ensures) c.in_ok-push_named_files.ensures
