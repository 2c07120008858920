use Rattle.std.proofs.lemmas.List.{length-map}
use Rattle.std.proofs.lemmas.Str.{IsUtf8-string_bytes, is_utf8-from_IsUtf8}
use Rattle.cck_entry.proofs.writing.write_result.Goals as goal

pub returns-clause-fits : goal.returns-clause-fits
returns-clause-fits g c = record {
  key = rw (← c.as_bytes.ensures.value) c.in_ok-write_with_length.ensures.fits;
  key_text = is_utf8-from_IsUtf8 _ (IsUtf8-string_bytes c.args.key.now);
  count = rw (length-map, ← c.as_slice-includes.ensures.value) c.in_ok-write_count.ensures.fits;
  includes = rw (← c.as_slice-includes.ensures.value) c.in_ok-write_includes.ensures.fits;
}
