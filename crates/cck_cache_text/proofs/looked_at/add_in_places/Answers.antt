use Rattle.std.proofs.Common.{◌≡◌, ℕ, List, [], ◌++◌, map, length, get_or, sym, ap, ◌∙◌, subst}
use Rattle.std.specs.Map.Iter.{deref}
use Rattle.std.proofs.lemmas.List.{append-nil, length_push}
use Rattle.std.proofs.lemmas.Map.Iter.{iter_end}
use Rattle.cck_cache_text.specs.Sets.{Adds, has_key}
use Rattle.cck_cache_text.proofs.LookedAtLemmas.{ForKey, UnnamedAt, in_places}
use Rattle.cck_cache_text.proofs.SetLemmas.{adds_more, adds_none_below, set_turn}
use Rattle.cck_cache_text.proofs.looked_at.add_in_places.Goals as goal

pub loop-directory-init : goal.loop-directory-init
loop-directory-init c = adds_none_below (ForKey (λ directory. UnnamedAt (has_key c.args.named.now.names) (directory ++ c.args.name.now)) c.args.named.now.directories.keys) c.args.paths.now

pub loop-directory-preserved : goal.loop-directory-preserved
loop-directory-preserved c =
    let names = has_key c.args.named.now.names in
    let keys = c.args.named.now.directories.keys in
    let name = c.args.name.now in
    let i = length c.loop-directory.yielded in
    let turn = set_turn keys c.loop-directory.yielded c.into_iter-directory-iterator.result c.loop-directory.directory-iterator c.next.new.self c.next.result c.in-Some.directory
    c.into_iter-directory-iterator.ensures.into_iter_gives.0 c.loop-directory.yielded_by c.in-Some.is c.next.ensures.steps in
    let same : c.in_ok-joined.field-0.items ≡ get_or (map (λ k. k.items) keys) i [] ++ name =
    c.in_ok-joined.ensures ∙ (append-nil _ ∙ ap (λ d. d ++ name) (c.deref.ensures.value ∙ sym turn.1))
    in
    rw (length_push c.loop-directory.yielded c.in-Some.directory)
    (adds_more (ForKey (λ directory. UnnamedAt names (directory ++ name)) keys) i c.args.paths.now c.loop-directory.paths c.add_unnamed.new.paths c.loop-directory.invariant
    (subst (λ (p : List ℕ). Adds (UnnamedAt names p) c.loop-directory.paths c.add_unnamed.new.paths) same c.in_ok-add_unnamed.ensures))

pub returns : goal.returns
returns c =
    let ends = iter_end deref c.args.named.now.directories.keys c.loop-directory.yielded c.into_iter-directory-iterator.result c.loop-directory.directory-iterator c.next.new.self c.next.result
    c.into_iter-directory-iterator.ensures.into_iter_gives.0 c.loop-directory.yielded_by c.in-None.is c.next.ensures.steps in
    in_places (has_key c.args.named.now.names) c.args.named.now.directories c.args.name.now (length c.loop-directory.yielded) c.args.paths.now c.loop-directory.paths ends.1 c.loop-directory.invariant
