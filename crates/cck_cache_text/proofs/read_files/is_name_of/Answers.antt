use Rattle.std.proofs.Common.{◌≡◌, ◌||◌, false, true, rules, sym, ap, ◌∙◌}
use Rattle.std.specs.List.{list_any}
use Rattle.std.specs.Map.Iter.{deref}
use Rattle.std.specs.Str.{bytes_eq}
use Rattle.std.proofs.lemmas.Bool.{or_left}
use Rattle.std.proofs.lemmas.Iterator.Consumers.{YieldsList-from_rest}
use Rattle.std.proofs.lemmas.Iterator.Search.{any_from_yields_List}
use Rattle.cck_cache_text.specs.ReadFiles.{without_dots}
use Rattle.cck_cache_text.specs.Sets.{has_key}
use Rattle.cck_cache_text.proofs.SetLemmas.{contains-has}
use Rattle.cck_cache_text.proofs.read_files.is_name_of.Goals as goal

pub returns-then-contains : goal.returns-then-contains
returns-then-contains c =
    let names = c.args.names.now in
    let name = c.args.name.now in
    let has : has_key names name ≡ true = sym (contains-has names name) ∙ sym c.if-contains.ensures in
    c.if-contains.true ∙ sym (or_left (has_key names name) (list_any (λ k. bytes_eq (without_dots k.items) name) names.keys) has)

pub returns-else-contains : goal.returns-else-contains
returns-else-contains c =
    let names = c.args.names.now in
    let name = c.args.name.now in
    let none : has_key names name ≡ false = sym (contains-has names name) ∙ sym c.if-contains.ensures in
    any_from_yields_List (λ k. bytes_eq (without_dots k.items) name) _ _ c.any.result c.any.ensures.ran (YieldsList-from_rest {shows = deref} names.keys c.iter.ensures.rest) (λ x b q k. search rules)
    ∙ sym (ap (λ b. b || list_any (λ k. bytes_eq (without_dots k.items) name) names.keys) none)
