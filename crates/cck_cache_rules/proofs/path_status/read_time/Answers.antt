use Rattle.std.proofs.Common.{ℕ, List, ◌<◌, ◌++◌, length, ◌∙◌, ap, arith, length-append}
use Rattle.cck_digest.specs.Frames.{length_bytes}
use Rattle.cck_cache_rules.proofs.PathStatusLemmas.{word_read}
use Rattle.cck_cache_rules.proofs.ReadingLemmas.{length-length_bytes, rest_fits}
use Rattle.cck_cache_rules.proofs.path_status.read_time.Goals as goal

pub returns-in_err-nanoseconds : goal.returns-in_err-nanoseconds
returns-in_err-nanoseconds c =
    let rest = c.in_ok-seconds.rest.now in
    let short : length rest < 4 = c.in_err-nanoseconds.ensures.cases in
    rw c.from_residual-in_err-nanoseconds.ensures
    (omega (arith, short, ap (length {A = ℕ}) c.in_ok-seconds.ensures, length-append (length_bytes c.in_ok-seconds.seconds) rest, length-length_bytes c.in_ok-seconds.seconds))

pub returns : goal.returns
returns c =
    let rest = c.in_ok-seconds.rest.now in
    let (is, after_is, _) = c.in_ok-nanoseconds.ensures.cases in
    c.in_ok-seconds.ensures
    ∙ ap (λ (r : List ℕ). length_bytes c.in_ok-seconds.seconds ++ r) (word_read rest c.in_ok-nanoseconds.nanoseconds.now c.in_ok-nanoseconds.rest.now c.from_le_bytes.result (rest_fits c.args.bytes.now (length_bytes c.in_ok-seconds.seconds) rest c.in_ok-seconds.ensures (λ i. (c.type_inv.bytes i).fits)) is after_is (omega (arith, c.in_ok-nanoseconds.ensures.cases.2)) c.from_le_bytes.ensures)
