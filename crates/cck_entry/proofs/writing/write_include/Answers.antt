use Rattle.std.proofs.Common.{rules}
use Rattle.std.proofs.lemmas.Str.{IsUtf8-string_bytes, is_utf8-from_IsUtf8}
use Rattle.cck_entry.proofs.writing.write_include.Goals as goal

pub returns-clause-fits : goal.returns-clause-fits
returns-clause-fits g c = record {
  path = rw (← c.deref.ensures.value) c.in_ok-write_with_length.ensures.fits;
  digest = rw (← c.as_bytes.ensures.value) c.in_ok-write_with_length-2.ensures.fits;
  digest_text = is_utf8-from_IsUtf8 _ (IsUtf8-string_bytes c.args.one.now.digest);
  size = search rules;
  modified = c.in_ok-write_time.ensures.fits;
  changed = c.in_ok-write_time-2.ensures.fits;
}
