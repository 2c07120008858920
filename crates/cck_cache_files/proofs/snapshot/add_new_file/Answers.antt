use Rattle.cck_cache_files.proofs.SnapshotLemmas.{new_part}
use Rattle.cck_cache_files.proofs.snapshot.add_new_file.Goals as goal

pub returns-clause-kept : goal.returns-clause-kept
returns-clause-kept g c =
    new_part c.args.files.now c.exists.new.self c.add_file.new.files c.args.path.now c.add_file.result c.exists.ensures.keeps c.if-exists.ensures.outcome c.add_file.ensures.added c.add_file.ensures.kept
