use Rattle.cck_files.proofs.CallsLemmas.{keeps_all, keeps_itself}
use Rattle.cck_cache_files.proofs.snapshot.has_one.Goals as goal

pub loop-path-init : goal.loop-path-init
loop-path-init c = keeps_itself c.args.files.now

pub loop-path-preserved : goal.loop-path-preserved
loop-path-preserved c = keeps_all c.args.files.now c.loop-path.files c.exists.new.self c.loop-path.invariant c.exists.ensures.keeps

pub returns-then-exists : goal.returns-then-exists
returns-then-exists c = keeps_all c.args.files.now c.loop-path.files c.exists.new.self c.loop-path.invariant c.exists.ensures.keeps
