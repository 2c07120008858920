use Rattle.std.proofs.Common.{◌≡◌, ℕ, List, [], true, false, map, length, get_or, sym, ap, ◌∙◌, subst, IsTrue, arith}
use Rattle.std.specs.Map.Iter.{deref}
use Rattle.std.proofs.lemmas.List.{length_push}
use Rattle.std.proofs.lemmas.Map.Iter.{iter_end}
use Rattle.cck_cache_text.specs.Absent.{IsForName, IsListed}
use Rattle.cck_cache_text.specs.Sets.{Adds, has_key}
use Rattle.cck_cache_text.proofs.AbsentLemmas.{AtName, all_listed, for_names, listed_more}
use Rattle.cck_cache_text.proofs.SetLemmas.{contains-has, adds_more, adds_none_below, has_key_at, set_turn}
use Rattle.cck_cache_text.proofs.absent.add_names.Goals as goal
use Rattle.cck_cache_text.proofs.absent.add_names.Goals.{else-not-is_found-via-then-not-is_found+else-contains, else-not-is_found-via-else-not-is_found}

false_true : false ≡ true → ⊥
false_true e = cc

pub loop-name-init : goal.loop-name-init
loop-name-init c = record {
  listed = λ k lt. absurd (omega arith);
  added = adds_none_below (AtName (has_key c.args.named.now.directories) (has_key c.args.named.now.names) (λ rest. IsTrue (has_key c.args.quoted.now rest)) (map (λ d. d.items) c.args.directories.now) (map (λ k. k.items) c.args.named.now.names.keys)) c.args.paths.now;
}

pub returns : goal.returns
returns c =
    let named = c.args.named.now in
    let directories = map (λ d. d.items) c.args.directories.now in
    let ends = iter_end deref named.names.keys c.loop-name.yielded c.into_iter-name-iterator.result c.loop-name.name-iterator c.next.new.self c.next.result
    c.into_iter-name-iterator.ensures.into_iter_gives.0 c.loop-name.yielded_by c.in-None.is c.next.ensures.steps in (
      all_listed (has_key named.systems) directories named.names (length c.loop-name.yielded) ends.1 c.loop-name.invariant.listed,
      for_names (has_key named.directories) (has_key named.names) (λ rest. IsTrue (has_key c.args.quoted.now rest)) directories named.names (length c.loop-name.yielded) c.args.paths.now c.loop-name.paths ends.1 c.loop-name.invariant.added,
    )

pub loop-name-preserved : goal.loop-name-preserved
loop-name-preserved c =
    let named = c.args.named.now in
    let directories = map (λ d. d.items) c.args.directories.now in
    let keys = map (λ k. k.items) named.names.keys in
    let i = length c.loop-name.yielded in
    let turn = set_turn named.names.keys c.loop-name.yielded c.into_iter-name-iterator.result c.loop-name.name-iterator c.next.new.self c.next.result c.in-Some.name
    c.into_iter-name-iterator.ensures.into_iter_gives.0 c.loop-name.yielded_by c.in-Some.is c.next.ensures.steps in
    let same : c.deref.result.now ≡ get_or keys i [] = c.deref.ensures.value ∙ sym turn.1 in
    let here : IsTrue (has_key named.systems (get_or keys i [])) → IsListed directories (get_or keys i []) =
    elim c.else-not-is_found.branch [
      | else-not-is_found-via-then-not-is_found+else-contains w ↦ λ system.
          (let none : has_key named.systems w.as_slice.result.now ≡ false = sym (contains-has named.systems w.as_slice.result.now) ∙ sym w.if-contains.ensures in
          let is : get_or keys i [] ≡ w.as_slice.result.now = turn.1 ∙ sym w.as_slice.ensures.value in
          absurd (false_true (sym none ∙ (ap (has_key named.systems) (sym is) ∙ system))))
      | else-not-is_found-via-else-not-is_found w ↦ λ system. subst (λ (n : List ℕ). IsListed directories n) same (c.in_ok-is_found.ensures.found.0 w.if-not-is_found.false)
    ] in
    rw (length_push c.loop-name.yielded c.in-Some.name) (record {
      listed = listed_more (has_key named.systems) directories keys i c.loop-name.invariant.listed here;
      added = adds_more (AtName (has_key named.directories) (has_key named.names) (λ rest. IsTrue (has_key c.args.quoted.now rest)) directories keys) i c.args.paths.now c.loop-name.paths c.add_name.new.paths c.loop-name.invariant.added
          (subst (λ (n : List ℕ). Adds (IsForName (has_key named.directories) (has_key named.names) (λ rest. IsTrue (has_key c.args.quoted.now rest)) directories n) c.loop-name.paths c.add_name.new.paths) same c.in_ok-is_found.ensures.added);
    })

pub returns-then-contains : goal.returns-then-contains
returns-then-contains c =
    let named = c.args.named.now in
    let directories = map (λ d. d.items) c.args.directories.now in
    let turn = set_turn named.names.keys c.loop-name.yielded c.into_iter-name-iterator.result c.loop-name.name-iterator c.next.new.self c.next.result c.in-Some.name
    c.into_iter-name-iterator.ensures.into_iter_gives.0 c.loop-name.yielded_by c.in-Some.is c.next.ensures.steps in
    let name = c.deref.result.now in
    let is : name ≡ get_or (map (λ k. k.items) named.names.keys) (length c.loop-name.yielded) [] = c.deref.ensures.value ∙ sym turn.1 in
    let system : has_key named.systems c.as_slice.result.now ≡ true = sym (contains-has named.systems c.as_slice.result.now) ∙ sym c.if-contains.ensures in (
      name,
      ap (has_key named.systems) (c.deref.ensures.value ∙ sym c.as_slice.ensures.value) ∙ system,
      ap (has_key named.names) is ∙ has_key_at named.names.keys (length c.loop-name.yielded) turn.0,
      λ listed. false_true (sym c.if-not-is_found.true ∙ c.in_ok-is_found.ensures.found.1 listed),
    )
