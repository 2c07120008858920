use Rattle.std.proofs.Common.{ℕ, List, Option, drop}
use Rattle.std.specs.Io.KnownBytes.{Appends}
use Rattle.std.specs.List.{flat_map, AllByRecursion}
use Rattle.cck_entry.specs.Writing.{include_bytes}
use Rattle.cck_entry.specs.Results.{Fits}
use Rattle.cck_include.specs.Include.{includes_in}
use Rattle.cck_entry.proofs.writing.write_includes.Given as goal

-- whatever completes the rest completes all
abbrev pub invariant-loop-one : goal.invariant-loop-one
invariant-loop-one g l =
    let contents = g.W.Write.contents in
    record {
      text : (final : Option (List ℕ)) → Appends (contents l.writer) final (flat_map include_bytes (includes_in (drop l.one-index l.includes))) → Appends (contents l.fn.writer) final (flat_map include_bytes (includes_in l.includes));
      fits : AllByRecursion Fits (includes_in (drop l.one-index l.includes)) → AllByRecursion Fits (includes_in l.includes);
    }
