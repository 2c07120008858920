use Rattle.std.proofs.Common.{option_map}
use Rattle.cck_files.specs.Calls.{Rose}
use Rattle.c_cache_keys.proofs.Lookups.{if_ok, looked_up}
use Rattle.c_cache_keys.proofs.looking.look_up.Goals as goal

pub returns-clause-found : goal.returns-clause-found
returns-clause-found g c =
    let F = Rose (g.F.Files.faults c.args.snapshot.now) (g.F.Files.faults c.lookup_with_statuses.new.files) in
    if_ok _ _
    (λ key h. looked_up g.H.HashState.hash (g.F.Files.file_map c.args.snapshot.now) c.args.request.now F c.args.statuses.now c.args.entry.now (option_map (λ k. k.now) key) h)
    c.lookup_with_statuses.result c.lookup_with_statuses.ensures.outcome
