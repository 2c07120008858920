use Rattle.std.proofs.Common.{List, ℕ, codes, sym, ◌∙◌}
use Rattle.cck_cache_rules.specs.Signature.{hmac, signed_text}
use Rattle.cck_cache_rules.proofs.ReadingLemmas.{differ, equal}
use Rattle.cck_cache_rules.proofs.StoredLemmas.{no_code, other_code, right_code}
use Rattle.cck_cache_rules.proofs.value.verified_value.Goals as goal

pub returns-in_err-code : goal.returns-in_err-code
returns-in_err-code g c =
    let code : List ℕ → List ℕ = λ x. hmac g.H.HashState.hash c.args.key.now (signed_text c.args.kind.now c.args.name.now x) in
    rw c.from_residual.ensures (no_code (codes "cck signed 1\n") c.args.value.now code (λ x. g.met.H.HashState.length_hash _) c.in_err-code.ensures)

pub returns-then-ne : goal.returns-then-ne
returns-then-ne g c =
    let code : List ℕ → List ℕ = λ x. hmac g.H.HashState.hash c.args.key.now (signed_text c.args.kind.now c.args.name.now x) in
    let known = c.in_ok-code.code.now in
    let apart = differ c.as_slice.result.now known c.if-ne.ensures in
    other_code (codes "cck signed 1\n") c.args.value.now code (λ x. g.met.H.HashState.length_hash _) known c.in_ok-code.bytes.now c.in_ok-code.ensures.0 c.in_ok-code.ensures.1
    (λ same. apart (c.as_slice.ensures ∙ (c.signature-own.ensures ∙ same)))

pub returns : goal.returns
returns g c =
    let code : List ℕ → List ℕ = λ x. hmac g.H.HashState.hash c.args.key.now (signed_text c.args.kind.now c.args.name.now x) in
    let known = c.in_ok-code.code.now in
    let same = equal c.as_slice.result.now known c.if-ne.ensures in
    right_code (codes "cck signed 1\n") c.args.value.now code (λ x. g.met.H.HashState.length_hash _) known c.in_ok-code.bytes.now c.in_ok-code.ensures.0 c.in_ok-code.ensures.1
    (sym c.signature-own.ensures ∙ (sym c.as_slice.ensures ∙ same))
