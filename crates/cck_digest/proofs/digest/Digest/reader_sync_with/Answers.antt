use Rattle.cck_digest.proofs.StreamLemmas.{holds_after, part_taken}
use Rattle.cck_digest.proofs.digest.Digest.reader_sync_with.Goals as goal

pub returns-clause-fed : goal.returns-clause-fed
returns-clause-fed g c =
    let read = c.in_ok-read_through.ensures.taken in (
      read.0,
      c.read_through.new.sink.each,
      part_taken _ _ (λ shown. shown.each) (λ before piece after step. step.0) read.0 _ _ read.1,
      read.2,
      holds_after _ (λ shown. g.H.HashState.holds shown.digest) (λ before piece after step. step.1) read.0 _ _ read.1 _ c.new.ensures,
      read.3,
    )
