use Rattle.std.proofs.Common.{IsTrue, length}
use Rattle.std.specs.Bool.{MatchBool}
use Rattle.cck_cache_text.specs.Sets.{has_key}
use Rattle.cck_cache_files.specs.PathStates.{KeepsStates}
use Rattle.cck_files.specs.Calls.{Keeps}
use Rattle.cck_files.specs.FileState.{FileState, IsQuiet, fault_count}
use Rattle.cck_cache_files.specs.Unnamed.{AreAllPassed, AreFronts, HasSpelling}
use Rattle.cck_cache_files.proofs.SetLemmas.{IsAmong}
use Rattle.cck_cache_files.proofs.unnamed.spellings_of.Given as goal

-- whether one of the names so far is another spelling, and the directories that these leave
abbrev pub invariant-loop-name : goal.invariant-loop-name
invariant-loop-name g l = record {
  kept : KeepsStates l.fn.states l.states;
  keeps : Keeps (λ (s : FileState). s.files) fault_count IsQuiet l.fn.files l.files;
  any : MatchBool l.is_any (HasSpelling l.states l.fn.files.files l.directory (IsAmong l.names.keys (length l.yielded))) (AreAllPassed l.states l.fn.files.files l.directory (IsAmong l.names.keys (length l.yielded)));
  fronts : AreFronts l.states l.fn.files.files l.directory (IsAmong l.names.keys (length l.yielded)) (λ front. IsTrue (has_key l.left front));
}
