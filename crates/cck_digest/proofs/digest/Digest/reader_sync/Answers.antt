use Rattle.std.proofs.Common.{◌≡◌, string_bytes}
use Rattle.cck_digest.specs.Digest.{digest_text}
use Rattle.cck_digest.proofs.StreamLemmas.{holds_of_stream, stream_is_known}
use Rattle.cck_digest.proofs.digest.Digest.reader_sync.Goals as goal

pub returns-clause-text : goal.returns-clause-text
returns-clause-text g c = stream_is_known c.finish.result (g.R.Read.remaining c.args.reader.now) _
    (λ text stream. string_bytes text ≡ digest_text g.H.HashState.hash stream)
    c.finish.ensures.text
    (holds_of_stream _ g.H.HashState.holds (λ before piece after step. step) _ _ _ c.in_ok-read_to_end.ensures.taken c.new-digest.ensures)
