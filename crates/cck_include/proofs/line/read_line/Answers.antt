use Rattle.std.proofs.Common.{sym}
use Rattle.std.proofs.lemmas.Bool.{eqb-true, eqb-false}
use Rattle.cck_include.proofs.LineLemmas.{malformed_free, malformed_last, unnamed_line, named_line, open_line}
use Rattle.cck_include.proofs.line.read_line.Goals as goal

pub returns-in_default : goal.returns-in_default
returns-in_default c = malformed_free c.args.text.now c.in_default.ensures

pub returns-then-text-first-eq10 : goal.returns-then-text-first-eq10
returns-then-text-first-eq10 c = unnamed_line c.args.text.now c.in-Some.first 0 c.in-Some.ensures c.if-text-first-eq10.true

pub returns-in-None : goal.returns-in-None
returns-in-None c = malformed_last c.args.text.now c.in-Some.first 0 c.in-Some.ensures c.if-text-first-eq10.false (eqb-true _ 0 (sym c.if-is_empty.ensures))

pub returns-in-Some-memchr : goal.returns-in-Some-memchr
returns-in-Some-memchr c = named_line c.args.text.now c.in-Some.first 0 c.in-Some.ensures c.if-text-first-eq10.false c.in-Some-memchr.length c.has_three.result c.in-Some-memchr.ensures c.has_three.ensures

pub returns-in-None-2 : goal.returns-in-None-2
returns-in-None-2 c = open_line c.args.text.now c.in-Some.first 0 c.in-Some.ensures c.if-text-first-eq10.false c.in-None.ensures (eqb-false _ 0 (sym c.if-is_empty.ensures))
