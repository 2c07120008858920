use Rattle.std.proofs.Common.{◌<◌, ◌∙◌, length, sym, ap, arith}
use Rattle.cck_include.specs.Include.{include_lent}
use Rattle.cck_entry.proofs.IncludeLoop.{begun_first, begun_none, begun_reads, first_is_readable}
use Rattle.cck_entry.proofs.includes.IncludesIterator.next.Goals as goal

pub returns-then-self-eq0-clause-steps : goal.returns-then-self-eq0-clause-steps
returns-then-self-eq0-clause-steps c =
    let empty = sym c.self.view_is ∙ begun_none c.self.inside.count c.self.inside.rest.now c.if-self-eq0.true in
    (empty, empty)

pub read_include_again-requires : goal.read_include_again-requires
read_include_again-requires c =
    let some : 0 < c.self.inside.count = omega arith in
    first_is_readable c.self.inside.count c.self.inside.rest.now some c.self.invariant

pub invariant_of-self : goal.invariant_of-self
invariant_of-self c =
    let some : 0 < c.self.inside.count = omega arith in
    (begun_first c.self.inside.count c.self.inside.rest.now (include_lent c.in-Ok.include) c.in-Ok.rest.now some c.in-Ok.ensures.read c.self.invariant).1

pub returns-in-Ok-clause-steps : goal.returns-in-Ok-clause-steps
returns-in-Ok-clause-steps c =
    let some : 0 < c.self.inside.count = omega arith in
    sym c.self.view_is
    ∙ (begun_first c.self.inside.count c.self.inside.rest.now (include_lent c.in-Ok.include) c.in-Ok.rest.now some c.in-Ok.ensures.read c.self.invariant).0

pub returns-in-Ok-clause-goes : goal.returns-in-Ok-clause-goes
returns-in-Ok-clause-goes c =
    let shorter = ap length (returns-in-Ok-clause-steps c) in
    record {
      on = λ finite. (tt, tt, omega (arith, shorter));
      keeps = tt;
      rests = λ finite. tt;
    }

pub returns-in-Err-clause-steps : goal.returns-in-Err-clause-steps
returns-in-Err-clause-steps c =
    let some : 0 < c.self.inside.count = omega arith in
    absurd (begun_reads c.in-Err.field-0 c.self.inside.count c.self.inside.rest.now some c.in-Err.ensures.err c.in-Err.ensures.read c.self.invariant)
