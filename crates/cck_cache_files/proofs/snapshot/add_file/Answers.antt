use Rattle.cck_files.specs.Node.{node_of}
use Rattle.cck_cache_files.proofs.SnapshotLemmas.{added, added_none}
use Rattle.cck_cache_files.proofs.snapshot.add_file.Goals as goal

pub returns-in_default-clause-added : goal.returns-in_default-clause-added
returns-in_default-clause-added g c = added_none c.args.files.now c.args.path.now

pub returns-in_default-read_node-clause-added : goal.returns-in_default-read_node-clause-added
returns-in_default-read_node-clause-added g c = added_none c.args.files.now c.args.path.now

pub returns-clause-added : goal.returns-clause-added
returns-clause-added g c = added c.args.files.now c.put.new.self c.args.path.now (node_of c.in-Some.node) c.in_ok-put.ensures.set
