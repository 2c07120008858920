use Rattle.std.proofs.Common.{◌≡◌, ◌∙◌, ℕ, IsTrue, [], Some, None, get_or, length, map, sym, ap, subst, true, false}
use Rattle.std.specs.Global.{Vec}
use Rattle.std.specs.Map.Iter.{deref}
use Rattle.std.proofs.lemmas.List.{length_push}
use Rattle.std.proofs.lemmas.Map.Iter.{iter_end}
use Rattle.cck_cache_text.specs.Sets.{has_key}
use Rattle.cck_cache_text.proofs.SetLemmas.{contains-has, has-insert, set_turn}
use Rattle.cck_files.proofs.CallsLemmas.{keeps_all}
use Rattle.cck_files.specs.FileMap.{FileMap}
use Rattle.cck_path.specs.Bytes.{Bytes}
use Rattle.cck_cache_files.specs.ReadOnce.{IsReadOnce}
use Rattle.cck_cache_files.proofs.ReadOnceLemmas.{copies_found, no_copies, seen_more, seen_passed}
use Rattle.cck_cache_files.proofs.read_once.has_copies.Goals as goal

pub loop-path-preserved-in_default : goal.loop-path-preserved-in_default
loop-path-preserved-in_default c =
    let files = c.args.files.now.files in
    let IsAny : Type 0 = IsTrue c.args.is_any in
    let keys = c.args.paths.now.keys in
    let names = map (λ (k : Vec ℕ). k.items) keys in
    let i = length c.loop-path.yielded in
    let turn = set_turn keys c.loop-path.yielded c.into_iter-path-iterator.result c.loop-path.path-iterator c.next.new.self c.next.result c.in-Some.path
    c.into_iter-path-iterator.ensures.into_iter_gives.0 c.loop-path.yielded_by c.in-Some.is c.next.ensures.steps in
    let at : c.deref.result.now ≡ get_or names i [] = c.deref.ensures.value ∙ sym turn.1 in
    let found : IsReadOnce c.loop-path.files.files IsAny c.deref.result.now None = rw c.in_default.is at c.in_ok-contents.ensures.contents in
    let here : IsReadOnce files IsAny (get_or names i []) None =
    subst (λ (n : Bytes). IsReadOnce files IsAny n None) at (subst (λ (m : FileMap). IsReadOnce m IsAny c.deref.result.now None) c.loop-path.invariant.keeps.same_map found)
    in
    rw (length_push c.loop-path.yielded c.in-Some.path) (record {
      keeps = keeps_all c.args.files.now c.loop-path.files c.compared_contents.new.files c.loop-path.invariant.keeps c.in_ok-contents.ensures.keeps;
      seen = seen_passed files IsAny names i c.loop-path.seen here c.loop-path.invariant.seen;
    })

pub loop-path-preserved : goal.loop-path-preserved
loop-path-preserved c =
    let files = c.args.files.now.files in
    let IsAny : Type 0 = IsTrue c.args.is_any in
    let keys = c.args.paths.now.keys in
    let names = map (λ (k : Vec ℕ). k.items) keys in
    let i = length c.loop-path.yielded in
    let turn = set_turn keys c.loop-path.yielded c.into_iter-path-iterator.result c.loop-path.path-iterator c.next.new.self c.next.result c.in-Some.path
    c.into_iter-path-iterator.ensures.into_iter_gives.0 c.loop-path.yielded_by c.in-Some.is c.next.ensures.steps in
    let at : c.deref.result.now ≡ get_or names i [] = c.deref.ensures.value ∙ sym turn.1 in
    let contents = c.in-Some-2.contents in
    let found : IsReadOnce c.loop-path.files.files IsAny c.deref.result.now (Some contents.items) = rw c.in-Some-2.is at c.in_ok-contents.ensures.contents in
    let here : IsReadOnce files IsAny (get_or names i []) (Some contents.items) =
    subst (λ (n : Bytes). IsReadOnce files IsAny n (Some contents.items)) at (subst (λ (m : FileMap). IsReadOnce m IsAny c.deref.result.now (Some contents.items)) c.loop-path.invariant.keeps.same_map found)
    in
    let new : has_key c.loop-path.seen contents.items ≡ false =
    sym (ap (has_key c.loop-path.seen) c.as_slice.ensures.value) ∙ sym (contains-has c.loop-path.seen c.as_slice.result.now) ∙ sym c.contains.ensures ∙ c.if-contains.false
    in
    rw (length_push c.loop-path.yielded c.in-Some.path) (record {
      keeps = keeps_all c.args.files.now c.loop-path.files c.compared_contents.new.files c.loop-path.invariant.keeps c.in_ok-contents.ensures.keeps;
      seen = seen_more files IsAny names i c.loop-path.seen c.insert.new.self contents.items
          (λ q. has-insert c.loop-path.seen c.insert.new.self contents c.in_ok-insert.ensures.keys q) new here c.loop-path.invariant.seen;
    })

pub returns-then-contains-clause-found : goal.returns-then-contains-clause-found
returns-then-contains-clause-found c =
    let files = c.args.files.now.files in
    let IsAny : Type 0 = IsTrue c.args.is_any in
    let keys = c.args.paths.now.keys in
    let names = map (λ (k : Vec ℕ). k.items) keys in
    let i = length c.loop-path.yielded in
    let turn = set_turn keys c.loop-path.yielded c.into_iter-path-iterator.result c.loop-path.path-iterator c.next.new.self c.next.result c.in-Some.path
    c.into_iter-path-iterator.ensures.into_iter_gives.0 c.loop-path.yielded_by c.in-Some.is c.next.ensures.steps in
    let at : c.deref.result.now ≡ get_or names i [] = c.deref.ensures.value ∙ sym turn.1 in
    let contents = c.in-Some-2.contents in
    let found : IsReadOnce c.loop-path.files.files IsAny c.deref.result.now (Some contents.items) = rw c.in-Some-2.is at c.in_ok-contents.ensures.contents in
    let here : IsReadOnce files IsAny (get_or names i []) (Some contents.items) =
    subst (λ (n : Bytes). IsReadOnce files IsAny n (Some contents.items)) at (subst (λ (m : FileMap). IsReadOnce m IsAny c.deref.result.now (Some contents.items)) c.loop-path.invariant.keeps.same_map found)
    in
    let has : has_key c.loop-path.seen contents.items ≡ true =
    sym (ap (has_key c.loop-path.seen) c.as_slice.ensures.value) ∙ sym (contains-has c.loop-path.seen c.as_slice.result.now) ∙ sym c.contains.ensures ∙ c.if-contains.true
    in
    copies_found files IsAny c.args.paths.now i c.loop-path.seen contents.items c.in-Some.path.now c.into_iter-path-iterator.ensures.into_iter_gives.4 turn.0 c.loop-path.invariant.seen here has

pub returns-clause-found : goal.returns-clause-found
returns-clause-found c =
    let keys = c.args.paths.now.keys in
    let ends = iter_end deref keys c.loop-path.yielded c.into_iter-path-iterator.result c.loop-path.path-iterator c.next.new.self c.next.result
    c.into_iter-path-iterator.ensures.into_iter_gives.0 c.loop-path.yielded_by c.in-None.is c.next.ensures.steps in
    no_copies c.args.files.now.files (IsTrue c.args.is_any) c.args.paths.now (length c.loop-path.yielded) c.loop-path.seen ends.1 c.loop-path.invariant.seen
