use Rattle.std.proofs.Common.{◌≡◌, Ok, Some, rules}
use Rattle.cck_explain.proofs.note.push_returned.Goals as goal

pub returns-in-Ok-Some-clause-lines : goal.returns-in-Ok-Some-clause-lines
returns-in-Ok-Some-clause-lines g c = λ calm.
    let which : c.args.returned.now ≡ Ok (Some c.in-Ok-Some.bytes) = search rules in
    rw (which, ← c.deref.ensures.value) (c.push_entry.ensures.lines calm)
