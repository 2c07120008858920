use Rattle.std.proofs.Common.{◌≡◌, filter, map, take}
use Rattle.cck_path.specs.Bytes.{lists_of}
use Rattle.cck_compiler.specs.Arguments.{each_once, is_arch}
use Rattle.cck_compiler.proofs.arguments.ParsedArguments.archs.Given as goal

-- found are those among the arguments so far
abbrev pub invariant-loop-arg : goal.invariant-loop-arg
invariant-loop-arg l = map (λ a. a.now) l.found.items ≡ each_once (filter is_arch (take l.arg-index (lists_of l.self.arch_args.items)))
