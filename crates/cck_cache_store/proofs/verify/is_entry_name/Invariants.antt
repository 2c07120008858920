use Rattle.std.proofs.Common.{◌≡◌, ◌<◌, ℕ}
use Rattle.cck_cache_files.specs.EntryNames.{entry_name}
use Rattle.cck_cache_store.specs.Verify.{key_in}
use Rattle.cck_cache_store.proofs.verify.is_entry_name.Given as goal

-- the name is at none of the places so far
abbrev pub invariant-loop-place : goal.invariant-loop-place
invariant-loop-place l = (l.key ≡ key_in l.name) × ((place : ℕ) → place < l.place → l.name ≡ entry_name (key_in l.name) place → ⊥)
