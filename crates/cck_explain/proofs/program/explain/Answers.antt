use Rattle.cck_explain.proofs.program.explain.Goals as goal

pub returns-in-Script-clause-listed : goal.returns-in-Script-clause-listed
returns-in-Script-clause-listed g c = rw c.in-Script.is c.explain_script.ensures.listed

pub returns-in-Script-clause-begun : goal.returns-in-Script-clause-begun
returns-in-Script-clause-begun g c = rw c.in-Script.is c.explain_script.ensures.begun
