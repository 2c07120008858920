use Rattle.std.proofs.Common.{Bool, ◌&&◌, ap, sym, ◌∙◌}
use Rattle.std.specs.Prelude.{String}
use Rattle.std.specs.Global.{Vec}
use Rattle.std.specs.declared.alloc.Global.{Global}
use Rattle.std.specs.Cmp.Derive.Mapped.{pointwise-map}
use Rattle.std.specs.Cmp.Lexicographic.{pointwise}
use Rattle.std.specs.String.{string_eq}
use Rattle.cck_entry.specs.Equality.{same_result}
use Rattle.cck_entry.specs.Results.{result_in}
use Rattle.cck_include.specs.Include.{include_in, same_include}
use Rattle.cck_include.specs.declared.include.IncludeEntry.{IncludeEntry}
use Rattle.cck_entry.proofs.EntryLemmas.{entries_in}
use Rattle.cck_entry.proofs.entry.PreprocessorCacheEntryPartialEq.eq.Goals as goal

pub returns : goal.returns
returns c =
    let left = entries_in c.self.inside.results.entries c.self.invariant.0 in
    let right = entries_in c.other.inside.results.entries c.other.invariant.0 in
    rw (← c.self.view_is, ← c.other.view_is, left, right)
    (c.eq.ensures
    ∙ ap (λ (E : String Global × Vec IncludeEntry → String Global × Vec IncludeEntry → Bool). pointwise E c.self.inside.results.entries c.other.inside.results.entries)
    (λ i x y. string_eq x.0 y.0 && sym (pointwise-map include_in same_include x.1.items y.1.items) i)
    ∙ sym (pointwise-map result_in same_result c.self.inside.results.entries c.other.inside.results.entries))
