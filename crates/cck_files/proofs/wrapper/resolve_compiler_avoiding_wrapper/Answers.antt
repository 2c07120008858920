use Rattle.std.proofs.Common.{inr}
use Rattle.cck_path.specs.Bytes.{variables_of}
use Rattle.cck_files.specs.Wrapper.{candidates}
use Rattle.cck_files.proofs.WrapperLemmas.{contains_later}
use Rattle.cck_files.proofs.wrapper.resolve_compiler_avoiding_wrapper.Goals as goal

pub returns-in-Some-clause-place : goal.returns-in-Some-clause-place
returns-in-Some-clause-place g c =
    let place = rw c.in-Some.is at c.in_ok-compiler.ensures.place in
    contains_later c.args.executable.now (candidates c.args.executable.now (variables_of c.args.vars.now)) c.in-Some.compiler.items place

pub returns-in-Some-clause-judgement : goal.returns-in-Some-clause-judgement
returns-in-Some-clause-judgement g c = let judgement = rw c.in-Some.is at c.in_ok-compiler.ensures.judgement in inr judgement
