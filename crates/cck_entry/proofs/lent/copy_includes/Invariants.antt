use Rattle.std.proofs.Common.{◌≡◌, ◌-◌, ◌++◌, IsSome}
use Rattle.cck_include.specs.Include.{includes_in}
use Rattle.cck_entry.specs.Lent.{includes_begun}
use Rattle.cck_entry.specs.Reading.{includes_at}
use Rattle.cck_entry.proofs.lent.copy_includes.Given as goal

abbrev pub invariant-loop : goal.invariant-loop
invariant-loop l = record {
  copied : includes_in l.copies.items ++ includes_begun (l.count - l.counter) l.rest ≡ includes_begun l.count l.bytes;
  whole : IsSome (includes_at (l.count - l.counter) l.rest);
}
