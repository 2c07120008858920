use Rattle.std.proofs.Common.{◌≡◌, sym, subst, string_bytes}
use Rattle.std.specs.Prelude.{IfSome}
use Rattle.std.proofs.lemmas.Result.{IfOk-weaker}
use Rattle.cck_digest.specs.Digest.{digest_text}
use Rattle.cck_digest.specs.TimeMacros.{Follows}
use Rattle.cck_digest.proofs.StreamLemmas.{holds_of_stream, stream_is_known}
use Rattle.cck_digest.proofs.digest.Digest.reader_sync_time_macros.Goals as goal

pub returns-clause-text : goal.returns-clause-text
returns-clause-text g c = stream_is_known c.finish.result (g.R.Read.remaining c.args.reader.now) _
    (λ pair stream. string_bytes pair.0 ≡ digest_text g.H.HashState.hash stream)
    c.finish.ensures.text
    (holds_of_stream _ (λ watched. g.H.HashState.holds watched.digest) (λ before piece after step. step.0) _ _ _ c.in_ok-read_to_end.ensures.taken c.new-watched.ensures.digest)

pub returns-clause-macros : goal.returns-clause-macros
returns-clause-macros g c =
    let known = g.R.Read.remaining c.args.reader.now in
    let followed : IfSome known (λ stream. Follows c.read_to_end.new.sink.finder stream) =
    holds_of_stream _ (λ watched. Follows watched.finder) (λ before piece after step. step.1) _ _ _ c.in_ok-read_to_end.ensures.taken c.new-watched.ensures.finder in
    IfOk-weaker c.finish.result _ _ (λ pair same. subst (λ finder. IfSome known (λ stream. Follows finder stream)) (sym same) followed) c.finish.ensures.finder
