use Rattle.std.proofs.Common.{◌≡◌, length, ◌++◌, append_assoc, arith, sym, ◌∙◌, ap}
use Rattle.cck_digest.specs.Frames.{frame, length_bytes}
use Rattle.cck_cache_rules.proofs.ReadingLemmas.{frame_found, no_frame, too_few}
use Rattle.cck_cache_rules.proofs.frames.read_frame.Goals as goal

pub returns-in_err-length : goal.returns-in_err-length
returns-in_err-length c = rw c.from_residual.ensures (too_few c.args.bytes.now c.in_err-length.ensures)

pub returns-then-rest-length : goal.returns-then-rest-length
returns-then-rest-length c = no_frame c.args.bytes.now c.in_ok-length.rest.now c.in_ok-length.length c.in_ok-length.ensures (omega arith)

pub returns : goal.returns
returns c =
    let found = c.split_at.result.0.now in
    let after = c.split_at.result.1.now in
    let same : length_bytes c.in_ok-length.length ≡ length_bytes (length found) = ap length_bytes (sym c.split_at.ensures.front_len) in
    let is : c.args.bytes.now ≡ frame found ++ after =
    c.in_ok-length.ensures ∙ (ap (λ l. l ++ c.in_ok-length.rest.now) same ∙ (ap (λ r. length_bytes (length found) ++ r) c.split_at.ensures.by_index.0 ∙ sym (append_assoc (length_bytes (length found)) found after)))
    in
    frame_found c.args.bytes.now found after is
