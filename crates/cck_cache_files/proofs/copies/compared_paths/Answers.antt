use Rattle.std.proofs.Common.{◌≡◌, ◌⊎◌, IsTrue}
use Rattle.cck_cache_text.specs.Names.{is_named}
use Rattle.cck_cache_text.specs.Sets.{has_key}
use Rattle.cck_cache_files.proofs.CopyLemmas.{paths_same}
use Rattle.cck_cache_files.proofs.copies.compared_paths.Goals as goal

pub returns-clause-paths : goal.returns-clause-paths
returns-clause-paths c marks are =
    let names = c.in_ok-names.names in
    let same = c.in_ok-names.ensures marks are in
    paths_same (λ name. IsTrue (has_key names name)) (λ name. (name ≡ c.args.input.now) ⊎ IsTrue (is_named marks name)) c.args.directory.now c.in_ok-paths.paths
    (λ name. (same name).0) (λ name. (same name).1) c.in_ok-paths.ensures.paths
