use Rattle.std.proofs.Common.{◌≡◌, ◌∙◌, ℕ, List, Option, ap, subst, sym, take, drop}
use Rattle.std.proofs.lemmas.Bool.{false≢true}
use Rattle.std.specs.List.{position_or_len}
use Rattle.std.specs.Option.{MatchOption}
use Rattle.std.specs.Str.{IsCharBoundary}
use Rattle.std.specs.Str.Parse.{ParsesUnsigned}
use Rattle.cck_cache_rules.specs.Size.{IsSize, IsUnit, is_other, number_of, suffix_of}
use Rattle.cck_cache_rules.proofs.SizeLemmas.{cut_at_suffix, no_size, number_read, size_by}
use Rattle.cck_cache_rules.proofs.size.size_of.Goals as goal

-- what is returned of a text
abbrev Gives : List ℕ → Option ℕ → Type 0
Gives text r = MatchOption r ((size : ℕ) → IsSize text size → ⊥) (IsSize text)

pub returns-in_err-number : goal.returns-in_err-number
returns-in_err-number c =
    let text = c.args.text.now in
    let count : c.digit_count.result ≡ position_or_len is_other text = c.digit_count.ensures ∙ ap (position_or_len is_other) c.as_bytes.ensures.value in
    subst (Gives text) (sym c.from_residual.ensures) (λ size is. false≢true (c.in_err-number.ensures.variant.1 (subst (IsCharBoundary text) (sym count) (cut_at_suffix text size is))))

pub returns-in_err-ok : goal.returns-in_err-ok
returns-in_err-ok c =
    let text = c.args.text.now in
    let count : c.digit_count.result ≡ position_or_len is_other text = c.digit_count.ensures ∙ ap (position_or_len is_other) c.as_bytes.ensures.value in
    let digits : c.in_ok-number.number.now ≡ number_of text = c.in_ok-number.ensures.front ∙ ap (λ n. take n text) count in
    subst (Gives text) (sym c.from_residual-in_err-ok.ensures)
    (no_size text c.parse.result (subst (λ bytes. ParsesUnsigned 64 10 bytes c.parse.result) digits c.parse.ensures.value.0) c.in_err-ok.ensures.variant)

pub returns : goal.returns
returns c =
    let text = c.args.text.now in
    let count : c.digit_count.result ≡ position_or_len is_other text = c.digit_count.ensures ∙ ap (position_or_len is_other) c.as_bytes.ensures.value in
    let digits : c.in_ok-number.number.now ≡ number_of text = c.in_ok-number.ensures.front ∙ ap (λ n. take n text) count in
    let rest : c.in_ok-number.suffix.now ≡ suffix_of text = c.in_ok-number.ensures.back ∙ ap (λ n. drop n text) count in
    let read = number_read text c.parse.result c.in_ok-ok.field-0 (subst (λ bytes. ParsesUnsigned 64 10 bytes c.parse.result) digits c.parse.ensures.value.0) c.in_ok-ok.ensures.value in
    size_by text c.in_ok-unit.unit c.in_ok-ok.field-0 c.checked_mul.result (subst (λ bytes. IsUnit bytes c.in_ok-unit.unit) rest c.in_ok-unit.ensures) read.0 read.1 c.checked_mul.ensures
