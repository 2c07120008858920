-- bytes that are escaped
use Rattle.std.specs.Prelude.{ℕ, Bool, length, nat_lt}
use Rattle.cck_path.specs.Escape.{escaped_byte}

-- whether the escape of a byte has more bytes than this one
abbrev pub is_escaped : ℕ → Bool
is_escaped byte = nat_lt 1 (length (escaped_byte byte))
