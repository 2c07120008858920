use Rattle.std.proofs.Common.{◌≡◌, ◌&&◌, drop, not}
use Rattle.std.specs.List.{list_any}
use Rattle.std.specs.Str.{bytes_eq}
use Rattle.cck_path.specs.Bytes.{lists_of}
use Rattle.cck_compiler.specs.Arguments.{is_arch}
use Rattle.cck_compiler.proofs.arguments.has_other_arch.Given as goal

-- the arguments that are not yet read decide the result
abbrev pub invariant-loop-arg : goal.invariant-loop-arg
invariant-loop-arg l =
    list_any (λ arg. is_arch arg && not (bytes_eq arg l.arch)) (lists_of (drop l.arg-index l.args))
    ≡ list_any (λ arg. is_arch arg && not (bytes_eq arg l.arch)) (lists_of l.args)
