use Rattle.std.proofs.Common.{◌≡◌, ◌++◌, ◌∷◌, [], List, append_assoc, map, sym, ap, ◌∙◌}
use Rattle.std.specs.Prelude.{String}
use Rattle.std.specs.Global.{Vec}
use Rattle.std.specs.declared.alloc.Global.{Global}
use Rattle.std.specs.String.{string_bytes}
use Rattle.cck_entry.specs.Results.{result_in}
use Rattle.cck_include.specs.Include.{includes_in}
use Rattle.cck_include.specs.declared.include.IncludeEntry.{IncludeEntry}
use Rattle.cck_entry.proofs.EntryLemmas.{after_copied}
use Rattle.cck_entry.proofs.results.copy_results.Goals as goal

pub put_last-requires : goal.put_last-requires
put_last-requires c =
    let copied = map result_in c.loop-key.copies.entries in
    let so_far = ap (λ (left : List (String Global × Vec IncludeEntry)). copied ++ map result_in left) (sym c.in-Some.ensures.steps) ∙ c.loop-key.invariant.copied in
    rw (c.in_ok-key.ensures.ok, c.deref.ensures)
    (after_copied c.args.results.now.entries copied (result_in (c.in-Some.key.now, c.in-Some.includes.now)) (map result_in c.next.new.self) c.loop-key.invariant.ordered so_far)

pub loop-key-preserved : goal.loop-key-preserved
loop-key-preserved c =
    let copied = map result_in c.loop-key.copies.entries in
    let left = map result_in c.next.new.self in
    let so_far = ap (λ (left : List (String Global × Vec IncludeEntry)). copied ++ map result_in left) (sym c.in-Some.ensures.steps) ∙ c.loop-key.invariant.copied in
    let key : string_bytes c.in_ok-key.key ≡ string_bytes c.in-Some.key.now = c.in_ok-key.ensures.ok ∙ c.deref.ensures in
    let list : includes_in c.in_ok-copy_includes.field-0.items ≡ includes_in c.in-Some.includes.now.items = rw (← c.deref-in-loop-key.ensures.value) c.in_ok-copy_includes.ensures.value in
    record {
      copied = rw (c.in_ok-put_last.ensures.ok, key, list) (append_assoc copied (result_in (c.in-Some.key.now, c.in-Some.includes.now) ∷ []) left ∙ so_far);
      ordered = c.loop-key.invariant.ordered;
      copies_ordered = c.in_ok-put_last.ensures.ordered;
    }
