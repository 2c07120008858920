use Rattle.std.proofs.Common.{◌≡◌, ◌⊎◌, drop, map}
use Rattle.std.specs.List.{find}
use Rattle.cck_files.specs.Calls.{Keeps, Rose}
use Rattle.cck_path.specs.Path.{components}
use Rattle.cck_path.specs.Text.{join_path}
use Rattle.cck_files.specs.Wrapper.{is_compiler}
use Rattle.cck_files.proofs.wrapper.first_compiler.Given as goal

-- the result depends on the remaining parts alone
abbrev pub invariant-loop-part : goal.invariant-loop-part
invariant-loop-part g l = let F = g.F.Files in record {
  kept : Keeps {F = g.row.F.Denot} F.file_map F.faults F.is_quiet l.fn.files l.files;
  left : (find (λ path. is_compiler (F.file_map l.fn.files) (components path)) (map (λ part. join_path part.now l.name) (drop l.part-index l.parts))
      ≡ find (λ path. is_compiler (F.file_map l.fn.files) (components path)) (map (λ part. join_path part.now l.name) l.parts))
      ⊎ Rose (F.faults l.fn.files) (F.faults l.files);
}
