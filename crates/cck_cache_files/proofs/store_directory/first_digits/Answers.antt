use Rattle.std.proofs.Common.{refl}
use Rattle.cck_cache_files.proofs.PathLemmas.{digits_are_first}
use Rattle.cck_cache_files.proofs.store_directory.first_digits.Goals as goal

pub returns : goal.returns
returns c = digits_are_first c.args.key.now c.get.result _ c.unwrap_or.result c.utf8.key c.get.ensures.cases c.unwrap_or.ensures refl c.unwrap_or.utf8
