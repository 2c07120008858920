use Rattle.cck_files.specs.Calls.{AreCalls, Keeps}
use Rattle.cck_hasher.specs.Decided.{IsAskedFor}
use Rattle.cck_hasher.specs.SeenNames.{AllPass}
use Rattle.cck_hasher.proofs.WalkLemmas.{Passed}
use Rattle.cck_hasher.specs.WalkContext.{context_of}
use Rattle.cck_hasher.proofs.walk.walk_text.Given as goal

abbrev pub invariant-loop-mark : goal.invariant-loop-mark
invariant-loop-mark g l =
    let F = g.F.Files in
    record {
      keeps : Keeps F.file_map F.faults F.is_quiet l.fn.files l.files;
      calls : AreCalls F.is_call (IsAskedFor (context_of g.H.HashState.hash l.context (F.file_map l.fn.files)) l.text) l.fn.files l.files;
      passed : Passed (context_of g.H.HashState.hash l.context (F.file_map l.fn.files)) l.text l.mark-iterator l.records;
      settled : AllPass (context_of g.H.HashState.hash l.context (F.file_map l.fn.files)) l.records l.seen;
    }
