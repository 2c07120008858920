use Rattle.std.proofs.Common.{◌≡◌, ℕ, ◌<◌, true, drop}
use Rattle.cck_cache_text.specs.TestName.{is_test_word}
use Rattle.cck_cache_text.proofs.argument.may_ask_for_file.Given as goal

-- no name begins at the places so far
abbrev pub invariant-loop-place : goal.invariant-loop-place
invariant-loop-place l = (k : ℕ) → k < l.place → is_test_word (drop k l.argument) ≡ true → ⊥
