use Rattle.std.proofs.Common.{◌≡◌, map, string_bytes, take}
use Rattle.cck_command.proofs.request.bytes_of.Given as goal

-- the words so far, as bytes
abbrev pub invariant-loop-word : goal.invariant-loop-word
invariant-loop-word l = map (λ bytes. bytes.items) l.all.items ≡ map string_bytes (take l.word-index l.words)
