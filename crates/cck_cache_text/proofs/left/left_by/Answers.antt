use Rattle.std.proofs.Common.{◌≡◌, ◌∙◌, ℕ, List, [], get_or, length, map, sym, ap, subst}
use Rattle.std.specs.Global.{Vec}
use Rattle.std.specs.Map.Iter.{deref}
use Rattle.std.proofs.lemmas.List.{length_push}
use Rattle.std.proofs.lemmas.Map.Iter.{iter_end}
use Rattle.cck_path.specs.Text.{join_path}
use Rattle.cck_cache_text.specs.Left.{IsLeftOn}
use Rattle.cck_cache_text.specs.Sets.{Adds}
use Rattle.cck_cache_text.proofs.LeftLemmas.{LeftBy, all_left}
use Rattle.cck_cache_text.proofs.SetLemmas.{adds_more, adds_none_below, set_turn}
use Rattle.cck_cache_text.proofs.left.left_by.Goals as goal

pub loop-name-init : goal.loop-name-init
loop-name-init c = adds_none_below (LeftBy c.args.directory.now c.args.names.now.keys) c.new-left.result

pub loop-name-preserved : goal.loop-name-preserved
loop-name-preserved c =
    let directory = c.args.directory.now in
    let keys = c.args.names.now.keys in
    let i = length c.loop-name.yielded in
    let turn = set_turn keys c.loop-name.yielded c.into_iter-name-iterator.result c.loop-name.name-iterator c.next.new.self c.next.result c.in-Some.name
    c.into_iter-name-iterator.ensures.into_iter_gives.0 c.loop-name.yielded_by c.in-Some.is c.next.ensures.steps in
    let name : List ℕ = get_or (map (λ (k : Vec ℕ). k.items) keys) i [] in
    let path_is : c.deref-in-loop-name.result.now ≡ join_path directory name =
    c.deref-in-loop-name.ensures.value ∙ (c.in_ok-path.ensures.bytes ∙ ap (λ (n : List ℕ). join_path directory n) (c.deref.ensures.value ∙ sym turn.1))
    in
    rw (length_push c.loop-name.yielded c.in-Some.name)
    (adds_more (LeftBy directory keys) i c.new-left.result c.loop-name.left c.add_left.new.left c.loop-name.invariant
    (subst (λ (p : List ℕ). Adds (IsLeftOn p) c.loop-name.left c.add_left.new.left) path_is c.in_ok-add_left.ensures))

pub returns-clause-left : goal.returns-clause-left
returns-clause-left c =
    let names = c.args.names.now in
    let ends = iter_end deref names.keys c.loop-name.yielded c.into_iter-name-iterator.result c.loop-name.name-iterator c.next.new.self c.next.result
    c.into_iter-name-iterator.ensures.into_iter_gives.0 c.loop-name.yielded_by c.in-None.is c.next.ensures.steps in
    all_left c.args.directory.now names c.new-left.result c.loop-name.left (length c.loop-name.yielded) c.new-left.ensures.empty (sym ends.1) c.loop-name.invariant
