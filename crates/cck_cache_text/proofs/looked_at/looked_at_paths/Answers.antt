use Rattle.std.proofs.Common.{true, false, List, ℕ, ap, map, subst}
use Rattle.cck_cache_text.specs.SearchList.{search_fields}
use Rattle.cck_cache_text.specs.Sets.{Adds, has_key}
use Rattle.cck_cache_text.proofs.LookedAtLemmas.{ForNames, all_looked_at}
use Rattle.cck_cache_text.proofs.looked_at.looked_at_paths.Goals as goal

pub returns : goal.returns
returns c marks are =
    let named = c.named-named.result.now in
    let included = c.in_ok-included.included in
    let directories = (search_fields c.args.search.now).directories in
    let start = c.new-paths.result in
    let middle = c.add_all_paths.new.paths in
    let end = c.add_all_paths-2.new.paths in
    all_looked_at c.args.text.now (map (λ a. a.items) c.args.arguments.now) directories marks named (c.named-named.ensures marks are) included (rw c.bytes.ensures at c.in_ok-included.ensures) start middle end c.new-paths.ensures.empty
    (subst (λ (ds : List (List ℕ)). Adds (ForNames (has_key named.names) (has_key named.directories) ds included.quoted true) start middle) (ap (map (λ d. d.items)) c.deref.ensures.value) c.in_ok-add_all_paths.ensures)
    (subst (λ (ds : List (List ℕ)). Adds (ForNames (has_key named.names) (has_key named.directories) ds included.bracketed false) middle end) (ap (map (λ d. d.items)) c.deref-2.ensures.value) c.in_ok-add_all_paths-2.ensures)
