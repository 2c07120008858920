use Rattle.std.proofs.Common.{◌≡◌, ℕ, drop}
use Rattle.cck_command.specs.ScriptNumbers.{capped, number_after, are_digits}
use Rattle.cck_command.proofs.script.number.magnitude.Given as goal

abbrev pub invariant-loop-byte : goal.invariant-loop-byte
invariant-loop-byte l =
    (n : ℕ) × (l.value ≡ capped n) × (number_after 0 l.text ≡ number_after n (drop l.byte-index l.text))
    × (are_digits l.text ≡ are_digits (drop l.byte-index l.text))
