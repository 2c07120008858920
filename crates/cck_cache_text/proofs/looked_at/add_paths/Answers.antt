use Rattle.std.proofs.Common.{◌≡◌, ℕ, true, false, List, map, sym, subst}
use Rattle.std.specs.BTreeSet.{BTreeSet}
use Rattle.std.specs.Global.{Vec}
use Rattle.cck_cache_text.specs.Sets.{Adds, has_key}
use Rattle.cck_cache_text.specs.TestedPaths.{IsInList, is_absolute}
use Rattle.cck_cache_text.proofs.LookedAtLemmas.{UnnamedAt, paths_absolute, paths_bracketed, paths_quoted}
use Rattle.cck_cache_text.proofs.looked_at.add_paths.Goals as goal
use Rattle.cck_cache_text.proofs.looked_at.add_paths.Goals.{then-is_quoted+in_ok-add_in_places, else-is_quoted}

pub returns-then-starts_with : goal.returns-then-starts_with
returns-then-starts_with c =
    let named = c.args.named.now in
    let name = c.args.name.now in
    let old = c.args.paths.now in
    let new = c.add_unnamed.new.paths in
    let is : is_absolute name ≡ true = sym c.if-starts_with.ensures.value in
    paths_absolute (has_key named.names) (has_key named.directories) (map (λ d. d.items) c.args.directories.now) name old new c.args.is_quoted is
    (subst (λ (p : List ℕ). Adds (UnnamedAt (has_key named.names) p) old new) (c.in_ok-to_vec.ensures.items_if_clones_equal (λ x y e. e)) c.in_ok-add_unnamed.ensures)

pub returns : goal.returns
returns c =
    let named = c.args.named.now in
    let name = c.args.name.now in
    let directories = map (λ d. d.items) c.args.directories.now in
    let old = c.args.paths.now in
    let new = c.add_in_list.new.paths in
    let is : is_absolute name ≡ false = sym c.if-starts_with.ensures.value in
    elim c.if-is_quoted.branch [
      | then-is_quoted+in_ok-add_in_places w ↦
          paths_quoted (has_key named.names) (has_key named.directories) directories name old new c.args.is_quoted w.add_in_places.new.paths is w.if-is_quoted.true w.in_ok-add_in_places.ensures
          (subst (λ (s : BTreeSet (Vec ℕ)). Adds (λ q. (has_key named.names q ≡ false) × IsInList directories name q) s new) w.paths-is c.in_ok-add_in_list.ensures)
      | else-is_quoted w ↦
          paths_bracketed (has_key named.names) (has_key named.directories) directories name old new c.args.is_quoted is w.if-is_quoted.false
          (subst (λ (s : BTreeSet (Vec ℕ)). Adds (λ q. (has_key named.names q ≡ false) × IsInList directories name q) s new) w.paths-is c.in_ok-add_in_list.ensures)
    ]
