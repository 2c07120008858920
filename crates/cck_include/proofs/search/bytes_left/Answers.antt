use Rattle.std.proofs.Common.{arith}
use Rattle.cck_include.proofs.search.bytes_left.Goals as goal

pub returns-in-Some-clause-nowhere : goal.returns-in-Some-clause-nowhere
returns-in-Some-clause-nowhere c = λ place low high. c.in-Some.ensures.0.before place low (omega (arith, high, c.in-Some.ensures.0.high))

pub returns-in-None-clause-nowhere : goal.returns-in-None-clause-nowhere
returns-in-None-clause-nowhere c = λ place low high. c.in-None.ensures place low (omega (arith, high))
