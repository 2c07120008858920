use Rattle.std.proofs.Common.{◌≡◌, ℕ, List, [], ◌∷◌, ◌++◌, map, take, refl, sym, ap, ◌∙◌, append-nil, arith}
use Rattle.std.specs.Int.{from_le_bytes, w32}
use Rattle.cck_cache_rules.specs.Checksum.{sums_of, words}
use Rattle.cck_cache_rules.proofs.ChecksumLemmas.{last_word, words_from_parts}
use Rattle.cck_cache_rules.proofs.ReadingLemmas.{empty, not_empty}
use Rattle.cck_cache_rules.proofs.checksum.sums_over.Goals as goal

pub loop-word-init : goal.loop-word-init
unfolding sums_of
loop-word-init c = refl

pub returns-then-is_empty : goal.returns-then-is_empty
returns-then-is_empty c =
    let rest = c.as_chunks.result.1.now in
    let whole = c.as_chunks.result.0.now in
    let before = map (from_le_bytes w32) (take c.loop-word.word-index whole) in
    let none : rest ≡ [] = empty rest (sym c.is_empty.ensures ∙ c.if-is_empty.true) in
    let all = words_from_parts c.args.bytes.now rest whole c.loop-word.word-index c.as_chunks.ensures.front c.as_chunks.ensures.back c.loop-word-test.false in
    c.loop-word.invariant ∙ ap sums_of (sym (append-nil before) ∙ ap (λ (r : List ℕ). before ++ words r) (sym none) ∙ all)

pub returns : goal.returns
returns c =
    let rest = c.as_chunks.result.1.now in
    let whole = c.as_chunks.result.0.now in
    let before = map (from_le_bytes w32) (take c.loop-word.word-index whole) in
    let all = words_from_parts c.args.bytes.now rest whole c.loop-word.word-index c.as_chunks.ensures.front c.as_chunks.ensures.back c.loop-word-test.false in
    let last : words rest ≡ c.from_le_bytes-2.result ∷ [] =
    last_word rest (not_empty rest (sym c.is_empty.ensures ∙ c.if-is_empty.false)) (omega (arith, c.as_chunks.ensures.back_len)) ∙ ap (λ (w : ℕ). w ∷ []) (omega arith)
    in
    c.with.ensures before c.loop-word.invariant ∙ ap sums_of (ap (λ (r : List ℕ). before ++ r) (sym last) ∙ all)
