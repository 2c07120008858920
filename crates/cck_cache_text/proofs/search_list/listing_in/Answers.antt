use Rattle.std.proofs.Common.{◌≡◌, ◌+◌, ◌-◌, ◌∙◌, ap, drop, length, map, sym, take}
use Rattle.std.proofs.lemmas.List.{drop-map, drop_min, take_rest}
use Rattle.cck_cache_text.specs.SearchList.{begins_list}
use Rattle.cck_cache_text.proofs.search_list.listing_in.Goals as goal

pub returns : goal.returns
returns c =
    let lines = c.args.lines.now in
    let begin = c.place_of-begin.result in
    let listing : take (length lines - c.min.result) (drop c.min.result lines) ≡ drop (begin + 1) lines =
    take_rest lines c.min.result ∙ (ap (λ n. drop n lines) c.min.ensures ∙ drop_min (begin + 1) lines)
    in
    ap (map (λ l. l.now)) listing ∙ (sym (drop-map (λ l. l.now) (begin + 1) lines) ∙ ap (λ n. drop (n + 1) (map (λ l. l.now) lines)) (c.place_of-begin.ensures.place begins_list (λ line found is. is)))
