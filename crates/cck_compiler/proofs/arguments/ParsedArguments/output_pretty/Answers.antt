use Rattle.std.proofs.Common.{◌≡◌, ◌∙◌, ap, codes, None, Some}
use Rattle.std.specs.Option.{option_map}
use Rattle.cck_path.specs.Path.{components}
use Rattle.cck_path.specs.Names.{file_name_of}
use Rattle.cck_compiler.specs.Arguments.{output_path}
use Rattle.cck_compiler.specs.Seen.{arguments_of}
use Rattle.cck_compiler.specs.declared.arguments.ArtifactDescriptor.{ArtifactDescriptor}
use Rattle.cck_compiler.proofs.Outputs.{found_output, no_output, output_by}
use Rattle.cck_compiler.proofs.arguments.ParsedArguments.output_pretty.Goals as goal

pub returns-in_default-clause-name : goal.returns-in_default-clause-name
returns-in_default-clause-name c =
    let none : None ≡ output_path (codes "obj") (arguments_of c.args.self.now) =
    ap (option_map (λ (o : ArtifactDescriptor). o.path.items)) c.in_default.ensures.value ∙ found_output (codes "obj") c.args.self.now.outputs.entries in
    rw (no_output (arguments_of c.args.self.now) none) c.in_ok-unknown_name.ensures

pub returns-in_ok-shown_name-in-Some-file_name-clause-name : goal.returns-in_ok-shown_name-in-Some-file_name-clause-name
returns-in_ok-shown_name-in-Some-file_name-clause-name c =
    let at : Some c.in-Some.output.now.path.items ≡ output_path (codes "obj") (arguments_of c.args.self.now) =
    ap (option_map (λ (o : ArtifactDescriptor). o.path.items)) c.in-Some.ensures.value ∙ found_output (codes "obj") c.args.self.now.outputs.entries in
    let name : Some c.in-Some-file_name.name.now ≡ file_name_of (components c.in-Some.output.now.path.items) =
    c.in-Some-file_name.ensures ∙ ap (λ s. file_name_of (components s)) c.deref.ensures.value in
    rw (output_by (arguments_of c.args.self.now) c.in-Some.output.now.path.items (Some c.in-Some-file_name.name.now) at name) c.in_ok-shown_name-in-Some-file_name.ensures

pub returns-in_ok-unknown_name-in-None-clause-name : goal.returns-in_ok-unknown_name-in-None-clause-name
returns-in_ok-unknown_name-in-None-clause-name c =
    let at : Some c.in-Some.output.now.path.items ≡ output_path (codes "obj") (arguments_of c.args.self.now) =
    ap (option_map (λ (o : ArtifactDescriptor). o.path.items)) c.in-Some.ensures.value ∙ found_output (codes "obj") c.args.self.now.outputs.entries in
    let name : None ≡ file_name_of (components c.in-Some.output.now.path.items) = c.in-None.ensures ∙ ap (λ s. file_name_of (components s)) c.deref.ensures.value in
    rw (output_by (arguments_of c.args.self.now) c.in-Some.output.now.path.items None at name) c.in_ok-unknown_name-in-None.ensures
