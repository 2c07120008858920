use Rattle.std.proofs.Common.{List, map, subst, sym}
use Rattle.std.proofs.KnownBytes.{Appends-trans}
use Rattle.std.specs.Global.{Vec}
use Rattle.std.specs.Prelude.{String}
use Rattle.std.specs.declared.alloc.Global.{Global}
use Rattle.std.specs.Io.KnownBytes.{Appends}
use Rattle.std.specs.List.{AllByRecursion, flat_map}
use Rattle.cck_include.specs.declared.include.IncludeEntry.{IncludeEntry}
use Rattle.cck_entry.specs.Results.{FitsResult, result_in}
use Rattle.cck_entry.specs.Writing.{result_bytes}
use Rattle.cck_entry.proofs.writing.write_results.Goals as goal

pub loop-key-preserved : goal.loop-key-preserved
loop-key-preserved g c =
    let contents = g.W.Write.contents in
    let steps = c.in-Some.ensures.steps in
    record {
      text = λ final rest. c.loop-key.invariant.text final
          (subst (λ (l : List (String Global × Vec IncludeEntry)). Appends (contents c.loop-key.writer) final (flat_map result_bytes (map result_in l))) (sym steps)
          (Appends-trans _ _ _ _ _ (c.in_ok-write_result.ensures.text) rest));
      fits = λ rest. c.loop-key.invariant.fits
          (subst (λ (l : List (String Global × Vec IncludeEntry)). AllByRecursion FitsResult (map result_in l)) (sym steps) (c.in_ok-write_result.ensures.fits, rest));
    }
