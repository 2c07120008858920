use Rattle.cck_cache_store.proofs.VerifyLemmas.{entry_found}
use Rattle.cck_cache_store.proofs.verify.is_sound_entry.Goals as goal

pub returns : goal.returns
returns c =
    entry_found c.args.name.now c.args.bytes.now _ (c.in_ok-is_entry_name.ensures.0 c.if-not-branch.false) (rw (c.in-Some.is, c.key_in.ensures) at c.in_ok-file.ensures)
    (c.in-Some-2.field-0, rw c.deref.ensures.value at (rw c.in-Some-2.is at c.in_ok-entry_view.ensures))
