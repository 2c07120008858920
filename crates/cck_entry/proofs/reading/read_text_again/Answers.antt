use Rattle.cck_entry.proofs.Utf8Lemmas.{is_text, read_again}
use Rattle.cck_entry.proofs.reading.read_text_again.Goals as goal

pub from_utf8_unchecked-requires : goal.from_utf8_unchecked-requires
from_utf8_unchecked-requires c = is_text c.args.bytes.now (c.in_ok-text.text.now, c.in_ok-text.rest.now) c.requires c.in_ok-text.ensures.read

pub returns-clause-read : goal.returns-clause-read
returns-clause-read c = rw c.from_utf8_unchecked.ensures (read_again c.args.bytes.now (c.in_ok-text.text.now, c.in_ok-text.rest.now) c.requires c.in_ok-text.ensures.read)
