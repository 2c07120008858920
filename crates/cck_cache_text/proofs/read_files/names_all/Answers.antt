use Rattle.std.proofs.Common.{◌≡◌, rules, sym, ◌∙◌}
use Rattle.std.specs.List.{list_all}
use Rattle.std.proofs.lemmas.Iterator.{YieldsList-from_slice}
use Rattle.std.proofs.lemmas.Iterator.Search.{all_from_yields_List}
use Rattle.cck_cache_text.specs.ReadFiles.{is_name_of}
use Rattle.cck_cache_text.proofs.ReadLemmas.{are_names, names_are}
use Rattle.cck_cache_text.proofs.read_files.names_all.Goals as goal

pub returns : goal.returns
returns c marks are_marks =
    let named = c.named-named.result.now in
    let read = c.args.read.now in
    let are = c.named-named.ensures marks are_marks in
    let all : c.all.result ≡ list_all (λ name. is_name_of named.names name.items) read =
    all_from_yields_List (λ name. is_name_of named.names name.items) _ _ c.all.result c.all.ensures.ran (YieldsList-from_slice read cc) (λ x b q k. search rules) in
    (λ h. are_names marks named are read (sym all ∙ h), λ h. all ∙ names_are marks named are read h)
