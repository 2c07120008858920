use Rattle.std.proofs.Common.{◌≡◌, arith, ◌∙◌, ap, sym, length, map, List, true, String}
use Rattle.std.specs.Global.{Vec}
use Rattle.std.specs.declared.alloc.Global.{Global}
use Rattle.std.specs.FinMap.{entries}
use Rattle.std.proofs.lemmas.List.{length-map}
use Rattle.cck_include.specs.declared.include.IncludeEntry.{IncludeEntry}
use Rattle.cck_entry.specs.Results.{result_in}
use Rattle.cck_include.specs.Include.{includes_in, include_in}
use Rattle.cck_entry.specs.Entry.{include_count, is_over}
use Rattle.cck_entry.proofs.EntryLemmas.{entries_in}
use Rattle.cck_entry.proofs.InsertLemmas.{added_to_none, under_limits}
use Rattle.cck_entry.proofs.entry.PreprocessorCacheEntry.insert_result.Goals as goal

pub invariant_of-self : goal.invariant_of-self
invariant_of-self c =
    let none : include_count (map result_in c.new-results.result.entries) ≡ 0 = ap (λ (es : List (String Global × Vec IncludeEntry)). include_count (map result_in es)) c.new-results.ensures.empty in
    (c.insert_counted.ensures.ordered, ap length c.as_slice-count.ensures.value ∙ omega (arith, none, c.in_ok-insert_counted.ensures.count, c.in_ok-insert_counted.ensures.bound))

pub returns-then-is_full-clause-ok : goal.returns-then-is_full-clause-ok
returns-then-is_full-clause-ok c =
    let n : length c.as_slice-count.result.now ≡ length (includes_in c.args.includes.items) = ap length c.as_slice-count.ensures.value ∙ sym (length-map c.args.includes.items include_in) in
    let over : is_over c.args.self.now (length (includes_in c.args.includes.items)) ≡ true = rw (← n) (sym c.if-is_full.ensures) in
    added_to_none c.new-results.result.entries c.insert_counted.new.results.entries c.args.self.now _ (includes_in c.args.includes.items) c.new-results.ensures.empty over c.in_ok-insert_counted.ensures.entry

pub overflow_add-self : goal.overflow_add-self
overflow_add-self c =
    let room = under_limits c.args.self.now (length c.as_slice-count.result.now) (sym c.if-is_full.ensures) in
    let held : entries c.args.self.now ≡ map result_in c.self.inside.results.entries = rw (← c.self.view_is) (entries_in c.self.inside.results.entries c.self.invariant.0) in
    let count : include_count (entries c.args.self.now) ≡ include_count (map result_in c.self.inside.results.entries) = ap include_count held in
    record { fits = omega (arith, room.1, count, c.self.invariant.1) }
