use Rattle.std.proofs.Common.{refl}
use Rattle.cck_files.specs.Calls.{none}
use Rattle.cck_files.proofs.contents.feed_file_of_size.Goals as goal

pub returns-in_err-buffer-clause-calls : goal.returns-in_err-buffer-clause-calls
returns-in_err-buffer-clause-calls g c = none refl
