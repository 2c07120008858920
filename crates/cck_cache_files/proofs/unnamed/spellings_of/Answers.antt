use Rattle.std.proofs.Common.{◌≡◌, ◌+◌, ◌∙◌, ℕ, Bool, [], IsTrue, get_or, length, map, refl, sym, ap, subst, arith}
use Rattle.std.specs.BTreeSet.{BTreeSet}
use Rattle.std.specs.Bool.{MatchBool}
use Rattle.std.specs.Global.{Vec}
use Rattle.std.specs.Map.Iter.{deref}
use Rattle.std.proofs.lemmas.List.{length_push}
use Rattle.std.proofs.lemmas.Map.Iter.{iter_end}
use Rattle.cck_cache_text.specs.Left.{IsLeftOn}
use Rattle.cck_cache_text.specs.Sets.{Adds, has_key}
use Rattle.cck_cache_text.proofs.LeftLemmas.{no_key}
use Rattle.cck_cache_text.proofs.SetLemmas.{set_turn}
use Rattle.cck_cache_files.proofs.StateLemmas.{KeepsStates-trans}
use Rattle.cck_files.proofs.CallsLemmas.{keeps_all, keeps_itself}
use Rattle.cck_files.specs.FileMap.{FileMap}
use Rattle.cck_path.specs.Bytes.{Bytes}
use Rattle.cck_path.specs.Text.{join_path}
use Rattle.cck_cache_files.specs.Unnamed.{AreAllPassed, AreFronts, HasSpelling, IsUnclear, IsUnnamedVerdict}
use Rattle.cck_cache_files.specs.declared.unnamed.UnnamedVerdict.{UnnamedVerdict}
use Rattle.cck_cache_files.proofs.SetLemmas.{IsAmong, among_keys, key_among}
use Rattle.cck_cache_files.proofs.UnnamedLemmas.{any_same, fronts_same, next_is_passed, next_is_spelling, next_passed, next_spelling, no_fronts, no_spelling}
use Rattle.cck_cache_files.proofs.unnamed.spellings_of.Goals as goal
use Rattle.cck_cache_files.proofs.unnamed.spellings_of.Goals.{in-Passed, in-Spelling+in_ok-add_left-in-Spelling}

pub loop-name-init : goal.loop-name-init
loop-name-init g c = record {
  kept = record { since = refl; states = λ path state e. e };
  keeps = keeps_itself c.args.files.now;
  any = no_spelling c.args.states.now c.args.files.now.files c.args.directory.now c.args.names.now.keys;
  fronts = no_fronts c.args.states.now c.args.files.now.files c.args.directory.now c.args.names.now.keys (λ front. IsTrue (has_key c.new-left.result front)) (λ front has. no_key c.new-left.result front c.new-left.ensures.empty has);
}

pub returns-in-Doubtful-clause-spellings : goal.returns-in-Doubtful-clause-spellings
returns-in-Doubtful-clause-spellings g c =
    let keys = c.args.names.now.keys in
    let i = length c.loop-name.yielded in
    let turn = set_turn keys c.loop-name.yielded c.into_iter-name-iterator.result c.loop-name.name-iterator c.next.new.self c.next.result c.in-Some.name
    c.into_iter-name-iterator.ensures.into_iter_gives.0 c.loop-name.yielded_by c.in-Some.is c.next.ensures.steps in
    let name : Bytes = get_or (map (λ (k : Vec ℕ). k.items) keys) i [] in
    let path_is : c.deref-in-loop-name.result.now ≡ join_path c.args.directory.now name =
    ◌∙◌ {b = c.in_ok-path.path.items} c.deref-in-loop-name.ensures.value (c.in_ok-path.ensures.bytes ∙ ap (λ (n : Bytes). join_path c.args.directory.now n) (c.deref.ensures.value ∙ sym turn.1)) in
    let unclear : IsUnclear c.unnamed_verdict.new.states c.deref-in-loop-name.result.now =
    subst (λ (v : UnnamedVerdict). IsUnnamedVerdict c.unnamed_verdict.new.states c.loop-name.files.files c.deref-in-loop-name.result.now v) c.in-Doubtful.is c.in_ok-verdict.ensures.verdict in (
      name,
      among_keys c.args.names.now (i + 1) name (omega (arith, turn.0)) (i, omega arith, refl),
      subst (λ (p : Bytes). IsUnclear c.unnamed_verdict.new.states p) path_is unclear,
    )

pub returns-in-Doubtful-clause-keeps : goal.returns-in-Doubtful-clause-keeps
returns-in-Doubtful-clause-keeps g c = keeps_all c.args.files.now c.loop-name.files c.unnamed_verdict.new.files c.loop-name.invariant.keeps c.in_ok-verdict.ensures.keeps

pub returns-in-Doubtful-clause-kept : goal.returns-in-Doubtful-clause-kept
returns-in-Doubtful-clause-kept g c =
    KeepsStates-trans c.args.states.now c.loop-name.states c.unnamed_verdict.new.states c.loop-name.invariant.kept c.unnamed_verdict.ensures.kept

pub returns-in_err-verdict-clause-kept : goal.returns-in_err-verdict-clause-kept
returns-in_err-verdict-clause-kept g c =
    KeepsStates-trans c.args.states.now c.loop-name.states c.unnamed_verdict.new.states c.loop-name.invariant.kept c.unnamed_verdict.ensures.kept

pub returns-in_err-add_left-in-Spelling-clause-kept : goal.returns-in_err-add_left-in-Spelling-clause-kept
returns-in_err-add_left-in-Spelling-clause-kept g c =
    KeepsStates-trans c.args.states.now c.loop-name.states c.unnamed_verdict.new.states c.loop-name.invariant.kept c.unnamed_verdict.ensures.kept

pub loop-name-preserved : goal.loop-name-preserved
loop-name-preserved g c =
    let keys = c.args.names.now.keys in
    let i = length c.loop-name.yielded in
    let directory = c.args.directory.now in
    let files = c.args.files.now.files in
    let old = c.loop-name.states in
    let new = c.unnamed_verdict.new.states in
    let keeps = c.unnamed_verdict.ensures.kept in
    let turn = set_turn keys c.loop-name.yielded c.into_iter-name-iterator.result c.loop-name.name-iterator c.next.new.self c.next.result c.in-Some.name
    c.into_iter-name-iterator.ensures.into_iter_gives.0 c.loop-name.yielded_by c.in-Some.is c.next.ensures.steps in
    let path = c.deref-in-loop-name.result.now in
    let joined : c.in_ok-path.path.items ≡ join_path directory (get_or (map (λ (k : Vec ℕ). k.items) keys) i []) =
    c.in_ok-path.ensures.bytes ∙ ap (λ (n : Bytes). join_path directory n) (c.deref.ensures.value ∙ sym turn.1) in
    let path_is : path ≡ join_path directory (get_or (map (λ (k : Vec ℕ). k.items) keys) i []) = ◌∙◌ {b = c.in_ok-path.path.items} c.deref-in-loop-name.ensures.value joined in
    let verdict : IsUnnamedVerdict new files path c.in_ok-verdict.verdict =
    subst (λ (m : FileMap). IsUnnamedVerdict new m path c.in_ok-verdict.verdict) c.loop-name.invariant.keeps.same_map c.in_ok-verdict.ensures.verdict in
    let P : BTreeSet (Vec ℕ) → Type 0 = λ left. AreFronts new files directory (IsAmong keys (i + 1)) (λ front. IsTrue (has_key left front)) in
    let more : P c.match-verdict.left = elim c.match-verdict.branch [
      | in-Passed w ↦ subst P (sym w.left-is)
          (next_passed old new files directory keys i keeps path path_is (λ front. IsTrue (has_key c.loop-name.left front))
          (subst (λ (v : UnnamedVerdict). IsUnnamedVerdict new files path v) w.in-Passed.is verdict) c.loop-name.invariant.fronts)
      | in-Spelling+in_ok-add_left-in-Spelling w ↦ subst P (sym w.left-is)
          (next_spelling old new files directory keys i keeps path path_is c.loop-name.left w.add_left.new.left
          (subst (λ (v : UnnamedVerdict). IsUnnamedVerdict new files path v) w.in-Spelling.is verdict)
          (subst (λ (p : Bytes). Adds (IsLeftOn p) c.loop-name.left w.add_left.new.left) (w.deref-in-Spelling.ensures.value ∙ sym c.deref-in-loop-name.ensures.value) w.in_ok-add_left-in-Spelling.ensures)
          c.loop-name.invariant.fronts)
    ] in
    let A : Bool → Type 0 = λ is_any. MatchBool is_any (HasSpelling new files directory (IsAmong keys (i + 1))) (AreAllPassed new files directory (IsAmong keys (i + 1))) in
    let any : A c.match-verdict.is_any = elim c.match-verdict.branch [
      | in-Passed w ↦ subst A (sym w.is_any-is)
          (next_is_passed old new files directory keys i keeps path path_is c.loop-name.is_any (subst (λ (v : UnnamedVerdict). IsUnnamedVerdict new files path v) w.in-Passed.is verdict) c.loop-name.invariant.any)
      | in-Spelling+in_ok-add_left-in-Spelling w ↦ subst A (sym w.is_any-is)
          (next_is_spelling old new files directory keys i keeps path path_is (subst (λ (v : UnnamedVerdict). IsUnnamedVerdict new files path v) w.in-Spelling.is verdict))
    ] in
    record {
      kept = KeepsStates-trans c.args.states.now old new c.loop-name.invariant.kept keeps;
      keeps = keeps_all c.args.files.now c.loop-name.files c.unnamed_verdict.new.files c.loop-name.invariant.keeps c.in_ok-verdict.ensures.keeps;
      any = rw (length_push c.loop-name.yielded c.in-Some.name) any;
      fronts = rw (length_push c.loop-name.yielded c.in-Some.name) more;
    }

pub returns-clause-keeps : goal.returns-clause-keeps
returns-clause-keeps g c = c.loop-name.invariant.keeps

pub returns-clause-kept : goal.returns-clause-kept
returns-clause-kept g c = c.loop-name.invariant.kept

pub returns-clause-spellings : goal.returns-clause-spellings
returns-clause-spellings g c =
    let names = c.args.names.now in
    let keys = names.keys in
    let n = length c.loop-name.yielded in
    let ends = iter_end deref keys c.loop-name.yielded c.into_iter-name-iterator.result c.loop-name.name-iterator c.next.new.self c.next.result
    c.into_iter-name-iterator.ensures.into_iter_gives.0 c.loop-name.yielded_by c.in-None.is c.next.ensures.steps in
    let same : length keys ≡ n = omega (arith, ends.1) in
    let states = c.loop-name.states in
    let files = c.args.files.now.files in
    let directory = c.args.directory.now in
    let there : (name : Bytes) → IsAmong keys n name → IsTrue (has_key names name) = λ name among. among_keys names n name (omega (arith, same)) among in
    let back : (name : Bytes) → IsTrue (has_key names name) → IsAmong keys n name = λ name has. subst (λ (k : ℕ). IsAmong keys k name) same (key_among names name has) in (
      any_same states directory (IsAmong keys n) (λ name. IsTrue (has_key names name)) there back files c.loop-name.is_any c.loop-name.invariant.any,
      fronts_same states files directory (IsAmong keys n) (λ name. IsTrue (has_key names name)) (λ front. IsTrue (has_key c.loop-name.left front)) (λ front. IsTrue (has_key c.loop-name.left front)) there back
          (λ front has. has) (λ front has. has) c.loop-name.invariant.fronts,
    )
