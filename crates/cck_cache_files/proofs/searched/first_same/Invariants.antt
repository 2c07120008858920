use Rattle.std.proofs.Common.{◌<◌, ◌≢◌, ℕ, None, Some, get_or}
use Rattle.cck_cache_files.proofs.searched.first_same.Given as goal

-- no directory so far is the same
abbrev pub invariant-loop-place : goal.invariant-loop-place
invariant-loop-place l = (k : ℕ) → k < l.place → get_or l.identities k None ≢ Some l.identity
