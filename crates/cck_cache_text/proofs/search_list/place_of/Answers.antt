use Rattle.std.proofs.Common.{length, ap, sym, ◌∙◌, rules}
use Rattle.std.specs.Option.{unwrap_or}
use Rattle.std.proofs.lemmas.Iterator.{YieldsList-from_slice}
use Rattle.std.proofs.lemmas.Iterator.Search.{position_from_yields_List}
use Rattle.cck_cache_text.proofs.SearchLemmas.{place_in_map, unwrapped_place}
use Rattle.cck_cache_text.proofs.search_list.place_of.Goals as goal

pub returns-clause-place : goal.returns-clause-place
returns-clause-place g c test passes =
    let lines = c.args.lines.now in
    let found = position_from_yields_List (λ l. test l.now) _ _ c.position.result c.position.ensures.ran (YieldsList-from_slice lines cc) (λ x b q k. search (rules, passes)) in
    c.unwrap_or.ensures ∙ (ap (λ p. unwrap_or p (length lines)) found ∙ (unwrapped_place (λ l. test l.now) lines ∙ sym (place_in_map test (λ l. l.now) lines)))
