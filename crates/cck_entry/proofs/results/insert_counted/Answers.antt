use Rattle.std.proofs.Common.{arith, Some, None, ◌∙◌, ap, length, List, sym, ◌+◌, map}
use Rattle.cck_entry.specs.Entry.{include_count}
use Rattle.cck_entry.specs.Results.{result_in}
use Rattle.cck_include.specs.declared.include.IncludeEntry.{IncludeEntry}
use Rattle.cck_entry.proofs.InsertLemmas.{insert_in, count_after, before_of}
use Rattle.cck_entry.proofs.results.insert_counted.Goals as goal

pub returns-in-Ok-None-clause-count : goal.returns-in-Ok-None-clause-count
returns-in-Ok-None-clause-count c = count_after c.args.results.now.entries c.insert.new.self.entries c.args.key c.args.includes None c.in-Ok-None.ensures.was_ordered c.in-Ok-None.ensures.entries (sym c.in-Ok-None.field-0-is ∙ c.in-Ok-None.ensures.old)

pub returns-in-Ok-None-clause-entry : goal.returns-in-Ok-None-clause-entry
returns-in-Ok-None-clause-entry c = insert_in c.args.results.now.entries c.insert.new.self.entries c.args.key c.args.includes c.in-Ok-None.ensures.was_ordered c.in-Ok-None.ensures.ordered c.in-Ok-None.ensures.entries

pub returns-in-Ok-Some-clause-count : goal.returns-in-Ok-Some-clause-count
returns-in-Ok-Some-clause-count c =
    ap (λ (is : List IncludeEntry). include_count (map result_in c.insert.new.self.entries) + length is) c.as_slice.ensures.value
    ∙ count_after c.args.results.now.entries c.insert.new.self.entries c.args.key c.args.includes (Some c.in-Ok-Some.old) c.in-Ok-Some.ensures.was_ordered c.in-Ok-Some.ensures.entries (sym c.in-Ok-Some.field-0-is ∙ c.in-Ok-Some.ensures.old)

pub returns-in-Ok-Some-clause-entry : goal.returns-in-Ok-Some-clause-entry
returns-in-Ok-Some-clause-entry c = insert_in c.args.results.now.entries c.insert.new.self.entries c.args.key c.args.includes c.in-Ok-Some.ensures.was_ordered c.in-Ok-Some.ensures.ordered c.in-Ok-Some.ensures.entries

pub returns-in-Ok-None-clause-bound : goal.returns-in-Ok-None-clause-bound
returns-in-Ok-None-clause-bound c = omega arith

pub returns-in-Ok-Some-clause-bound : goal.returns-in-Ok-Some-clause-bound
returns-in-Ok-Some-clause-bound c =
    let h = before_of c.args.results.now.entries c.args.key (Some c.in-Ok-Some.old) (sym c.in-Ok-Some.field-0-is ∙ c.in-Ok-Some.ensures.old) in
    rw c.as_slice.ensures.value h
