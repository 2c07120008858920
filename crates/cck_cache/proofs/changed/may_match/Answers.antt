use Rattle.std.proofs.Common.{sym}
use Rattle.cck_cache.proofs.changed.may_match.Goals as goal

pub returns-in-Some : goal.returns-in-Some
returns-in-Some c = rw (c.in-Some.is, sym c.deref.ensures.value, sym c.as_str.ensures.value) c.may_have_digest.ensures
