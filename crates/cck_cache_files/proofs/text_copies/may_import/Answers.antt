use Rattle.std.proofs.Common.{codes, sym, ◌∙◌}
use Rattle.cck_digest.proofs.FinderLemmas.{Has-found}
use Rattle.cck_cache_files.proofs.text_copies.may_import.Goals as goal

pub returns : goal.returns
returns c =
    let found = Has-found c.args.text.now (codes "#import ") c.find.result c.find.ensures in
    (λ is. found.0 (sym c.is_some.ensures ∙ is), λ has. c.is_some.ensures ∙ found.1 has)
