use Rattle.std.proofs.Common.{◌∙◌, IsTrue, sym}
use Rattle.cck_cache_text.specs.Names.{is_named}
use Rattle.cck_cache_text.specs.SearchList.{search_fields}
use Rattle.cck_cache_text.specs.Sets.{has_key}
use Rattle.cck_cache_files.proofs.SourceLemmas.{asked_same}
use Rattle.cck_cache_files.proofs.sources.asked_by.Goals as goal

pub returns-clause-asked : goal.returns-clause-asked
returns-clause-asked c marks are =
    let names = c.names.result.now in
    let same = c.names.ensures marks are in
    asked_same c.args.files.now.files c.args.directory.now (λ name. IsTrue (has_key names name)) (λ name. IsTrue (is_named marks name)) (search_fields c.args.search.now).directories c.in_ok-asked.asked
    (λ name has. sym (same name) ∙ has) (λ name is. same name ∙ is) c.in_ok-asked.ensures.asked
