use Rattle.std.proofs.Common.{◌≡◌, ◌∙◌, ℕ, [], Some, None, get_or, length, map, sym, subst}
use Rattle.std.specs.Global.{Vec}
use Rattle.std.specs.Map.Iter.{deref}
use Rattle.std.proofs.lemmas.List.{length_push}
use Rattle.std.proofs.lemmas.Map.Iter.{iter_end}
use Rattle.cck_cache_text.proofs.SetLemmas.{set_turn}
use Rattle.cck_files.proofs.CallsLemmas.{keeps_all, keeps_itself}
use Rattle.cck_files.specs.FileMap.{FileMap}
use Rattle.cck_path.specs.Bytes.{Bytes}
use Rattle.cck_cache_files.specs.Copies.{IsKnownOf}
use Rattle.cck_cache_files.proofs.CopyLemmas.{known_all, known_empty, known_more, known_passed}
use Rattle.cck_cache_files.proofs.copies.known_files_of.Goals as goal

pub loop-name-init : goal.loop-name-init
loop-name-init c = record {
  keeps = keeps_itself c.args.files.now;
  known = known_empty c.args.files.now.files c.args.directory.now (map (λ k. k.items) c.args.names.now.keys) c.new-known.result.items c.new-known.ensures.items;
}

pub loop-name-preserved-in_default : goal.loop-name-preserved-in_default
loop-name-preserved-in_default c =
    let files = c.args.files.now.files in
    let directory = c.args.directory.now in
    let keys = c.args.names.now.keys in
    let names = map (λ (k : Vec ℕ). k.items) keys in
    let i = length c.loop-name.yielded in
    let turn = set_turn keys c.loop-name.yielded c.into_iter-name-iterator.result c.loop-name.name-iterator c.next.new.self c.next.result c.in-Some.name
    c.into_iter-name-iterator.ensures.into_iter_gives.0 c.loop-name.yielded_by c.in-Some.is c.next.ensures.steps in
    let same : c.loop-name.files.files ≡ files = c.loop-name.invariant.keeps.same_map in
    let at : c.deref.result.now ≡ get_or names i [] = c.deref.ensures.value ∙ sym turn.1 in
    let found : IsKnownOf c.loop-name.files.files directory c.deref.result.now None = rw c.in_default.is at c.in_ok-file.ensures.known in
    let here : IsKnownOf files directory (get_or names i []) None =
    subst (λ (n : Bytes). IsKnownOf files directory n None) at (subst (λ (m : FileMap). IsKnownOf m directory c.deref.result.now None) same found)
    in
    rw (length_push c.loop-name.yielded c.in-Some.name) (record {
      keeps = keeps_all c.args.files.now c.loop-name.files c.known_by_name.new.files c.loop-name.invariant.keeps c.in_ok-file.ensures.keeps;
      known = known_passed files directory names i c.loop-name.known.items here c.loop-name.invariant.known;
    })

pub loop-name-preserved : goal.loop-name-preserved
loop-name-preserved c =
    let files = c.args.files.now.files in
    let directory = c.args.directory.now in
    let keys = c.args.names.now.keys in
    let names = map (λ (k : Vec ℕ). k.items) keys in
    let i = length c.loop-name.yielded in
    let turn = set_turn keys c.loop-name.yielded c.into_iter-name-iterator.result c.loop-name.name-iterator c.next.new.self c.next.result c.in-Some.name
    c.into_iter-name-iterator.ensures.into_iter_gives.0 c.loop-name.yielded_by c.in-Some.is c.next.ensures.steps in
    let same : c.loop-name.files.files ≡ files = c.loop-name.invariant.keeps.same_map in
    let at : c.deref.result.now ≡ get_or names i [] = c.deref.ensures.value ∙ sym turn.1 in
    let file = c.in-Some-2.file in
    let found : IsKnownOf c.loop-name.files.files directory c.deref.result.now (Some file) = rw c.in-Some-2.is at c.in_ok-file.ensures.known in
    let here : IsKnownOf files directory (get_or names i []) (Some file) =
    subst (λ (n : Bytes). IsKnownOf files directory n (Some file)) at (subst (λ (m : FileMap). IsKnownOf m directory c.deref.result.now (Some file)) same found)
    in
    rw (length_push c.loop-name.yielded c.in-Some.name) (record {
      keeps = keeps_all c.args.files.now c.loop-name.files c.known_by_name.new.files c.loop-name.invariant.keeps c.in_ok-file.ensures.keeps;
      known = known_more files directory names i c.loop-name.known.items c.push.new.self.items file c.in_ok-push.ensures.items here c.loop-name.invariant.known;
    })

pub returns-clause-keeps : goal.returns-clause-keeps
returns-clause-keeps c = c.loop-name.invariant.keeps

pub returns-clause-known : goal.returns-clause-known
returns-clause-known c =
    let keys = c.args.names.now.keys in
    let ends = iter_end deref keys c.loop-name.yielded c.into_iter-name-iterator.result c.loop-name.name-iterator c.next.new.self c.next.result
    c.into_iter-name-iterator.ensures.into_iter_gives.0 c.loop-name.yielded_by c.in-None.is c.next.ensures.steps in
    known_all c.args.files.now.files c.args.directory.now c.args.names.now (length c.loop-name.yielded) c.loop-name.known.items ends.1 c.loop-name.invariant.known
