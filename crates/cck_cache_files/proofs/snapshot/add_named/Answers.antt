use Rattle.cck_cache_files.specs.Snapshot.{named_path}
use Rattle.cck_cache_files.proofs.SnapshotLemmas.{grows_at, grows_not_at, leads_by}
use Rattle.cck_cache_files.proofs.snapshot.add_named.Goals as goal

pub returns-then-branch-clause-named : goal.returns-then-branch-clause-named
returns-then-branch-clause-named g c =
    let cwd = c.args.cwd.now in
    let name = c.args.name.now in
    let path = c.deref-then-branch.result.now in
    grows_at (named_path cwd name) path c.args.files.now c.add_new_file.new.files c.add_new_file.result
    (leads_by cwd name c.in_ok-joined.joined.items c.deref.result.now c.in_ok-path.path.items path c.in_ok-joined.ensures.components c.deref.ensures.value c.in_ok-path.ensures.bytes c.deref-then-branch.ensures.value)
    c.add_new_file.ensures.put c.add_new_file.ensures.kept c.add_new_file.ensures.calm

pub returns-clause-named : goal.returns-clause-named
returns-clause-named g c = grows_not_at (named_path c.args.cwd.now c.args.name.now) c.args.files.now
