use Rattle.std.proofs.Common.{◌&&◌, ap, refl, sym}
use Rattle.std.proofs.lemmas.Bool.{le-leb, lt-leb}
use Rattle.std.specs.Prelude.{nat_le}
use Rattle.cck_command.proofs.script.number.is_digit.Goals as goal

pub returns-then-byte-ge48 : goal.returns-then-byte-ge48
returns-then-byte-ge48 c = sym (ap (λ b. b && nat_le c.args.byte 57) (le-leb 48 c.args.byte c.if-byte-ge48.true))

pub returns-else-byte-ge48 : goal.returns-else-byte-ge48
returns-else-byte-ge48 c = rw (lt-leb 48 c.args.byte c.if-byte-ge48.false) refl
