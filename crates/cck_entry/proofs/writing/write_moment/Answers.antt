use Rattle.std.specs.Int.{w32, w64, to_le_bytes, cast_unsigned}
use Rattle.cck_entry.proofs.AppendLemmas.{appends_then}
use Rattle.cck_entry.proofs.writing.write_moment.Goals as goal

pub returns-clause-text : goal.returns-clause-text
returns-clause-text g c =
    appends_then _ _ _ (to_le_bytes w64 (cast_unsigned w64 c.args.moment.seconds)) (to_le_bytes w32 c.args.moment.nanoseconds) c.in_ok-write_seconds.ensures.text c.in_ok-write_nanoseconds.ensures.text
