use Rattle.std.proofs.Common.{◌<◌, ℕ, get_or}
use Rattle.std.specs.Str.{IsUtf8}
use Rattle.cck_c.specs.declared.bytes.Bytes.{Bytes}
use Rattle.cck_c.proofs.key.are_utf8.Given as goal

-- each text so far is UTF-8
abbrev pub invariant-loop-one : goal.invariant-loop-one
invariant-loop-one l = (k : ℕ) → k < l.one-index → (d : Bytes) → IsUtf8 (get_or l.all k d).bytes.now
