use Rattle.std.proofs.Common.{◌≡◌, ◌++◌, filter, map, take}
use Rattle.cck_path.specs.Bytes.{lists_of}
use Rattle.cck_path.specs.Text.{join_path}
use Rattle.cck_compiler.specs.ExtraFiles.{is_library}
use Rattle.cck_compiler.proofs.extra_files.push_listed.Given as goal

-- the libraries so far were appended
abbrev pub invariant-loop-name : goal.invariant-loop-name
invariant-loop-name l = lists_of l.all.items ≡ lists_of l.fn.all.items ++ map (join_path l.folder) (filter is_library (lists_of (take l.name-index l.names)))
