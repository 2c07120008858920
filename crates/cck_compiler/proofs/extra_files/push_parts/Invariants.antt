use Rattle.std.proofs.Common.{◌≡◌, ◌++◌, map}
use Rattle.cck_path.specs.Bytes.{lists_of}
use Rattle.cck_compiler.proofs.extra_files.push_parts.Given as goal

-- the parts so far were appended
abbrev pub invariant-loop-part : goal.invariant-loop-part
invariant-loop-part l = lists_of l.all.items ≡ lists_of l.fn.all.items ++ map (λ p. p.now) l.yielded
