use Rattle.std.proofs.Common.{◌≡◌, ◌<◌, ◌≤◌, ◌∙◌, ap, map, length, arith, get_or, Bor, ℕ, List}
use Rattle.std.proofs.lemmas.List.{length-map}
use Rattle.cck_compiler.specs.Seen.{arguments_of}
use Rattle.cck_compiler.proofs.Architectures.{arch_added, arch_known, arch_none, archs_all}
use Rattle.cck_compiler.proofs.arguments.ParsedArguments.archs.Goals as goal
use Rattle.cck_compiler.proofs.arguments.ParsedArguments.archs.Goals.{then-is_arch+then-not-contains+in_ok-push, else-is_arch, else-is_arch-via-then-is_arch+else-not-contains, else-is_arch-via-else-is_arch}

pub loop-arg-preserved : goal.loop-arg-preserved
loop-arg-preserved c =
    let args = c.args.self.now.arch_args.items in
    let i = c.loop-arg.arg-index in
    let within : i < length args = omega (arith, ap length c.deref-arg-items.ensures.value, c.loop-arg-test.true) in
    let at : c.arg-item.result ≡ get_or args i c.arg-item.result = c.arg-item.is ∙ ap (λ xs. get_or xs i c.arg-item.result) c.deref-arg-items.ensures.value in
    elim c.if-is_arch.branch [
      | then-is_arch+then-not-contains+in_ok-push w ↦ arch_added args i c.arg-item.result c.as_slice-arch.result c.loop-arg.found.items within at c.as_slice-arch.ensures.value c.loop-arg.invariant
          c.if-is_arch.found.items (ap (λ f. f.items) w.found-is ∙ w.in_ok-push.ensures.items) w.if-is_arch.ensures (rw (← w.deref.ensures.value) w.if-not-contains.ensures.value)
      | else-is_arch w ↦ elim w.else-is_arch.branch [
        | else-is_arch-via-then-is_arch+else-not-contains w' ↦ ap (λ f. map (λ (a : Bor (List ℕ)). a.now) f.items) w.found-is
            ∙ arch_known args i c.arg-item.result c.as_slice-arch.result c.loop-arg.found.items within at c.as_slice-arch.ensures.value c.loop-arg.invariant
            w'.if-is_arch.ensures (rw (← w'.deref.ensures.value) w'.if-not-contains.ensures.value)
        | else-is_arch-via-else-is_arch w' ↦ ap (λ f. map (λ (a : Bor (List ℕ)). a.now) f.items) w.found-is
            ∙ arch_none args i c.arg-item.result c.as_slice-arch.result c.loop-arg.found.items within at c.as_slice-arch.ensures.value c.loop-arg.invariant w'.if-is_arch.ensures
      ]
    ]

pub returns-clause-archs : goal.returns-clause-archs
returns-clause-archs c =
    let args = c.args.self.now.arch_args.items in
    let end : length args ≤ c.loop-arg.arg-index = omega (arith, ap length c.deref-arg-items.ensures.value, c.loop-arg-test.false) in
    archs_all (arguments_of c.args.self.now) c.loop-arg.arg-index c.loop-arg.found.items (rw (length-map) end) c.loop-arg.invariant
