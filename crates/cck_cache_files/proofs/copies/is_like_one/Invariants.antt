use Rattle.std.proofs.Common.{◌≡◌, ◌<◌, ℕ, get_or}
use Rattle.cck_cache_files.specs.Copies.{IsLike}
use Rattle.cck_cache_files.specs.declared.copies.KnownFile.{KnownFile}
use Rattle.cck_cache_files.proofs.copies.is_like_one.Given as goal

-- no file so far is like it
abbrev pub invariant-loop-file : goal.invariant-loop-file
invariant-loop-file l = (k : ℕ) → k < l.file-index → (file : KnownFile) → get_or l.known k file ≡ file → IsLike file l.length l.seconds → ⊥
