use Rattle.std.proofs.Common.{arith, refl}
use Rattle.cck_cache_rules.proofs.ChecksumLemmas.{sums_of-append}
use Rattle.cck_cache_rules.proofs.checksum.Sums.with.Goals as goal

pub returns : goal.returns
returns c before is = sums_of-append before c.args.word c.args.self is _ _ _ _ (omega arith) refl refl refl
