use Rattle.std.proofs.Common.{◌≡◌, ◌∙◌, ℕ, List, [], Bool, map, length, get_or, sym, subst}
use Rattle.std.specs.Global.{Vec}
use Rattle.std.specs.Map.Iter.{deref}
use Rattle.std.proofs.lemmas.List.{length_push}
use Rattle.std.proofs.lemmas.Map.Iter.{iter_end}
use Rattle.cck_cache_text.specs.LookedAt.{IsUnnamedPath}
use Rattle.cck_cache_text.specs.Sets.{Adds, has_key}
use Rattle.cck_cache_text.specs.declared.names.Named.{Named}
use Rattle.cck_cache_text.proofs.LookedAtLemmas.{ForKey, for_keys}
use Rattle.cck_cache_text.proofs.SetLemmas.{adds_more, adds_none_below, set_turn}
use Rattle.cck_cache_text.proofs.looked_at.add_all_paths.Goals as goal

abbrev Path : Named → List (Vec ℕ) → Bool → List ℕ → List ℕ → Type 0
Path named directories is_quoted name = IsUnnamedPath (has_key named.names) (has_key named.directories) (map (λ d. d.items) directories) name is_quoted

pub loop-name-init : goal.loop-name-init
loop-name-init c = adds_none_below (ForKey (Path c.args.named.now c.args.directories.now c.args.is_quoted) c.args.names.now.keys) c.args.paths.now

pub loop-name-preserved : goal.loop-name-preserved
loop-name-preserved c =
    let keys = c.args.names.now.keys in
    let path = Path c.args.named.now c.args.directories.now c.args.is_quoted in
    let i = length c.loop-name.yielded in
    let turn = set_turn keys c.loop-name.yielded c.into_iter-name-iterator.result c.loop-name.name-iterator c.next.new.self c.next.result c.in-Some.name
    c.into_iter-name-iterator.ensures.into_iter_gives.0 c.loop-name.yielded_by c.in-Some.is c.next.ensures.steps in
    let same : c.deref.result.now ≡ get_or (map (λ k. k.items) keys) i [] = c.deref.ensures.value ∙ sym turn.1 in
    rw (length_push c.loop-name.yielded c.in-Some.name)
    (adds_more (ForKey path keys) i c.args.paths.now c.loop-name.paths c.add_paths.new.paths c.loop-name.invariant
    (subst (λ (n : List ℕ). Adds (path n) c.loop-name.paths c.add_paths.new.paths) same c.in_ok-add_paths.ensures))

pub returns : goal.returns
returns c =
    let ends = iter_end deref c.args.names.now.keys c.loop-name.yielded c.into_iter-name-iterator.result c.loop-name.name-iterator c.next.new.self c.next.result
    c.into_iter-name-iterator.ensures.into_iter_gives.0 c.loop-name.yielded_by c.in-None.is c.next.ensures.steps in
    for_keys (Path c.args.named.now c.args.directories.now c.args.is_quoted) c.args.names.now (length c.loop-name.yielded) c.args.paths.now c.loop-name.paths ends.1 c.loop-name.invariant
