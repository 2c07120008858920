use Rattle.std.proofs.Common.{◌≡◌, Some, take}
use Rattle.cck_files.specs.Calls.{Keeps}
use Rattle.cck_include.specs.Gathered.{digested_in, gathered}
use Rattle.cck_include.specs.Include.{includes_in}
use Rattle.cck_include.proofs.gathering.gather.Given as goal

abbrev pub invariant-loop-digest : goal.invariant-loop-digest
invariant-loop-digest g l =
    let F = g.F.Files in
    record {
      keeps : Keeps F.file_map F.faults F.is_quiet l.fn.files l.files;
      so_far : gathered (F.file_map l.fn.files) l.moment (digested_in (take l.digest-index l.included)) ≡ Some (includes_in l.includes.items);
    }
