use Rattle.cck_entry.proofs.entry.PreprocessorCacheEntry.read.Goals as goal

pub returns-in-Ok-clause-counted : goal.returns-in-Ok-clause-counted
returns-in-Ok-clause-counted c rest is over =
    let refused = c.in-Ok.ensures.counted rest is over in
    absurd cc
