use Rattle.std.proofs.Common.{rules, tests}
use Rattle.std.specs.Char.{is_ascii_alphanumeric}
use Rattle.std.proofs.lemmas.Iterator.{YieldsList-from_slice}
use Rattle.std.proofs.lemmas.Iterator.Search.{all_from_yields_List}
use Rattle.cck_cache_text.proofs.read_files.are_alphanumeric.Goals as goal

pub returns : goal.returns
returns c =
    all_from_yields_List is_ascii_alphanumeric _ _ c.all.result c.all.ensures.ran (YieldsList-from_slice c.args.bytes.now cc) (λ x b q k. search (rules, tests))
