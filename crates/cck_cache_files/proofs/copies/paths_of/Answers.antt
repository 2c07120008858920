use Rattle.std.proofs.Common.{◌≡◌, ◌∙◌, ℕ, [], get_or, length, map, sym, ap, subst}
use Rattle.std.specs.Global.{Vec}
use Rattle.std.specs.Map.Iter.{deref}
use Rattle.std.proofs.lemmas.List.{length_push}
use Rattle.std.proofs.lemmas.Map.Iter.{iter_end}
use Rattle.cck_cache_text.specs.Sets.{Adds}
use Rattle.cck_cache_text.proofs.SetLemmas.{adds_more, adds_none_below, adds_one, set_turn}
use Rattle.cck_path.specs.Bytes.{Bytes}
use Rattle.cck_path.specs.Path.{Path, components, normal}
use Rattle.cck_path.specs.Text.{path_text}
use Rattle.cck_cache_files.specs.Snapshot.{named_path}
use Rattle.cck_cache_files.proofs.CopyLemmas.{paths_all}
use Rattle.cck_cache_files.proofs.copies.paths_of.Goals as goal

pub loop-name-init : goal.loop-name-init
loop-name-init c =
    let names = map (λ (k : Vec ℕ). k.items) c.args.names.now.keys in
    (c.new-paths.result, c.new-paths.ensures.empty, adds_none_below (λ k p. p ≡ named_path c.args.directory.now (get_or names k [])) c.new-paths.result)

pub loop-name-preserved : goal.loop-name-preserved
loop-name-preserved c =
    let directory = c.args.directory.now in
    let keys = c.args.names.now.keys in
    let names = map (λ (k : Vec ℕ). k.items) keys in
    let i = length c.loop-name.yielded in
    let turn = set_turn keys c.loop-name.yielded c.into_iter-name-iterator.result c.loop-name.name-iterator c.next.new.self c.next.result c.in-Some.name
    c.into_iter-name-iterator.ensures.into_iter_gives.0 c.loop-name.yielded_by c.in-Some.is c.next.ensures.steps in
    let at : c.deref.result.now ≡ get_or names i [] = c.deref.ensures.value ∙ sym turn.1 in
    let path = c.in_ok-path.path in
    let leads : path.items ≡ named_path directory (get_or names i []) =
    c.in_ok-path.ensures.bytes ∙ (ap (λ (b : Bytes). path_text (normal (components b))) c.deref-in-loop-name.ensures.value ∙ ap (λ (p : Path). path_text (normal p)) c.in_ok-joined.ensures.components) ∙ ap (named_path directory) at
    in
    let (none, empty, before) = c.loop-name.invariant in
    let one : Adds (λ q. q ≡ named_path directory (get_or names i [])) c.loop-name.paths c.insert.new.self =
    subst (λ (p : Bytes). Adds (λ q. q ≡ p) c.loop-name.paths c.insert.new.self) leads (adds_one c.loop-name.paths c.insert.new.self path c.in_ok-insert.ensures.keys)
    in
    rw (length_push c.loop-name.yielded c.in-Some.name) (none, empty, adds_more (λ k p. p ≡ named_path directory (get_or names k [])) i none c.loop-name.paths c.insert.new.self before one)

pub returns-clause-paths : goal.returns-clause-paths
returns-clause-paths c =
    let keys = c.args.names.now.keys in
    let ends = iter_end deref keys c.loop-name.yielded c.into_iter-name-iterator.result c.loop-name.name-iterator c.next.new.self c.next.result
    c.into_iter-name-iterator.ensures.into_iter_gives.0 c.loop-name.yielded_by c.in-None.is c.next.ensures.steps in
    let (none, empty, added) = c.loop-name.invariant in
    paths_all c.args.directory.now c.args.names.now none c.loop-name.paths (length c.loop-name.yielded) ends.1 empty added
