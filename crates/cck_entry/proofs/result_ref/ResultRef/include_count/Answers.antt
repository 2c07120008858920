use Rattle.std.proofs.Common.{sym}
use Rattle.cck_entry.proofs.IncludeLoop.{begun_length}
use Rattle.cck_entry.proofs.result_ref.ResultRef.include_count.Goals as goal

pub returns : goal.returns
returns c = sym (begun_length _ _ c.args.self.now.whole)
