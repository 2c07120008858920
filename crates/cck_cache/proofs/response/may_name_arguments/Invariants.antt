use Rattle.std.proofs.Common.{◌≡◌, ℕ, ◌<◌, true}
use Rattle.cck_cache.specs.Response.{begins_arguments}
use Rattle.cck_cache.proofs.response.may_name_arguments.Given as goal

-- no file of arguments is named at the places so far
abbrev pub invariant-loop-place : goal.invariant-loop-place
invariant-loop-place l = (k : ℕ) → k < l.place → begins_arguments l.argument k ≡ true → ⊥
