use Rattle.std.proofs.Common.{◌≡◌, ◌≤◌, ◌<◌, ◌-◌, ℕ, length, get_or}
use Rattle.cck_strip.proofs.beginnings.shared_len.Given as goal

abbrev pub invariant-loop-shared : goal.invariant-loop-shared
invariant-loop-shared l = record {
  within : l.shared ≤ length l.bytes;
  within_others : l.shared ≤ length l.others;
  alike : (k : ℕ) → k < l.shared → get_or l.bytes k 0 ≡ get_or l.others k 0;
}

abbrev pub decreases-loop-shared : goal.decreases-loop-shared
decreases-loop-shared l = length l.bytes - l.shared
