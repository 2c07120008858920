use Rattle.std.proofs.Common.{◌≡◌, ◌++◌, take}
use Rattle.cck_path.specs.Bytes.{lists_of}
use Rattle.cck_compiler.proofs.lists.push_copies.Given as goal

-- the copies so far were appended
abbrev pub invariant-loop-bytes : goal.invariant-loop-bytes
invariant-loop-bytes l = lists_of l.all.items ≡ lists_of l.fn.all.items ++ lists_of (take l.bytes-index l.more)
