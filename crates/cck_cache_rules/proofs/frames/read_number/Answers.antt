use Rattle.std.proofs.Common.{◌≡◌, ℕ, ◌<◌, get_or, ◌++◌, sym, ◌∙◌, ap}
use Rattle.std.specs.Int.{to_le_bytes, w64}
use Rattle.std.proofs.lemmas.Nat.{le_bytes_8}
use Rattle.cck_digest.proofs.FrameLemmas.{length_bytes_are_bytes}
use Rattle.cck_cache_rules.proofs.ReadingLemmas.{front_fits}
use Rattle.cck_cache_rules.proofs.frames.read_number.Goals as goal

pub returns : goal.returns
returns c =
    let n = c.from_le_bytes-number.result in
    let front = c.split_at.result.0.now in
    let fits : (i : ℕ) → get_or front i 0 < 256 = rw c.split_at.ensures.front (front_fits 8 c.args.bytes.now (λ i. (c.type_inv.bytes i).fits)) in
    let written : to_le_bytes w64 n ≡ front = le_bytes_8 front n c.split_at.ensures.front_len fits c.from_le_bytes-number.ensures in
    c.split_at.ensures.by_index.0 ∙ ap (λ f. f ++ c.split_at.result.1.now) (sym (length_bytes_are_bytes n c.from_le_bytes-number.type_inv ∙ written))
