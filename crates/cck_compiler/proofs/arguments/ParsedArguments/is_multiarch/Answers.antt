use Rattle.std.proofs.Common.{◌∙◌, ap, sym, false}
use Rattle.std.specs.List.{find}
use Rattle.std.specs.Option.{option_map_or}
use Rattle.cck_path.specs.Bytes.{lists_of}
use Rattle.cck_compiler.specs.Arguments.{archs, is_arch, is_multiarch}
use Rattle.cck_compiler.proofs.Architectures.{has_other, several}
use Rattle.cck_compiler.proofs.arguments.ParsedArguments.is_multiarch.Goals as goal

pub returns-in-Some : goal.returns-in-Some
unfolding archs is_multiarch
returns-in-Some c =
    let args = lists_of c.args.self.now.arch_args.items in
    c.has_other_arch.ensures
    ∙ ap (λ xs. has_other (lists_of xs) c.in-Some.first.now) c.deref-in-Some.ensures.value
    ∙ ap (λ o. option_map_or (has_other args) o false) (c.in-Some.ensures ∙ ap (λ xs. find is_arch (lists_of xs)) c.deref.ensures.value)
    ∙ sym (several args)

pub returns-in-None : goal.returns-in-None
unfolding archs is_multiarch
returns-in-None c =
    let args = lists_of c.args.self.now.arch_args.items in
    ap (λ o. option_map_or (has_other args) o false) (c.in-None.ensures ∙ ap (λ xs. find is_arch (lists_of xs)) c.deref.ensures.value)
    ∙ sym (several args)
