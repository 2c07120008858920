use Rattle.std.proofs.Common.{ℕ, List, Option, map}
use Rattle.std.specs.Io.KnownBytes.{Appends}
use Rattle.std.specs.List.{flat_map, AllByRecursion}
use Rattle.cck_entry.specs.Writing.{result_bytes}
use Rattle.cck_entry.specs.Results.{result_in, FitsResult}
use Rattle.cck_entry.proofs.writing.write_results.Given as goal

-- whatever completes the rest completes all
abbrev pub invariant-loop-key : goal.invariant-loop-key
invariant-loop-key g l =
    let contents = g.W.Write.contents in
    record {
      text : (final : Option (List ℕ)) → Appends (contents l.writer) final (flat_map result_bytes (map result_in l.key-iterator)) → Appends (contents l.fn.writer) final (flat_map result_bytes (map result_in l.results.entries));
      fits : AllByRecursion FitsResult (map result_in l.key-iterator) → AllByRecursion FitsResult (map result_in l.results.entries);
    }
