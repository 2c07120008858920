use Rattle.std.proofs.Common.{◌≡◌, ◌⊎◌, IsTrue}
use Rattle.cck_cache_text.specs.Names.{is_named}
use Rattle.cck_cache_text.specs.Sets.{has_key}
use Rattle.cck_cache_files.proofs.CopyLemmas.{known_same}
use Rattle.cck_cache_files.proofs.copies.known_files.Goals as goal

pub returns-clause-known : goal.returns-clause-known
returns-clause-known c marks are =
    let names = c.in_ok-names.names in
    let same = c.in_ok-names.ensures marks are in
    known_same c.args.files.now.files c.args.directory.now (λ name. IsTrue (has_key names name)) (λ name. (name ≡ c.args.input.now) ⊎ IsTrue (is_named marks name)) c.in_ok-known.known.items
    (λ name. (same name).0) (λ name. (same name).1) c.in_ok-known.ensures.known
