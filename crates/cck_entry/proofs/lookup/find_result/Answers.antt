use Rattle.std.proofs.Common.{rules, ◌≡◌, [], ◌∷◌, ◌++◌, inl, true, false, ap, subst, sym, ◌∙◌, append_assoc, map}
use Rattle.std.proofs.lemmas.List.{append-nil}
use Rattle.std.specs.List.{list_all}
use Rattle.std.specs.Iterator.Adapters.{rev_source}
use Rattle.cck_files.proofs.CallsLemmas.{keeps_all, keeps_itself}
use Rattle.cck_files.specs.Calls.{Rose}
use Rattle.cck_include.specs.Include.{includes_in}
use Rattle.cck_entry.specs.Known.{AreKnown}
use Rattle.cck_entry.specs.Matching.{MayMiss, matches}
use Rattle.cck_entry.proofs.LookupLemmas.{misses, hits}
use Rattle.cck_entry.specs.Find.{found_in}
use Rattle.cck_entry.specs.Results.{result_in}
use Rattle.cck_include.specs.JudgeContext.{setting_of}
use Rattle.cck_entry.proofs.lookup.find_result.Goals as goal

pub loop-key-init : goal.loop-key-init
loop-key-init g c =
    let F = g.F.Files in
    let s = setting_of g.H.HashState.hash c.args.context.now in
    let all : rev_source c.into_iter-key-iterator.result ≡ c.args.results.now.entries = search rules in
    record {
      can = tt;
      finite = tt;
      keeps = keeps_itself c.args.files.now;
      known = c.new-known.ensures s (F.file_map c.args.files.now);
      seen = ([], sym (append-nil (rev_source c.into_iter-key-iterator.result) ∙ all));
      so_far = inl (ap (λ l. found_in (matches s (F.file_map c.args.files.now)) (map result_in l)) all);
    }

pub loop-key-preserved : goal.loop-key-preserved
loop-key-preserved g c =
    let F = g.F.Files in
    let s = setting_of g.H.HashState.hash c.args.context.now in
    let old = F.file_map c.args.files.now in
    let right : AreKnown s (F.file_map c.loop-key.files) c.loop-key.known = rw c.loop-key.invariant.keeps.same_map c.loop-key.invariant.known in
    let R = Rose (F.faults c.loop-key.files) (F.faults c.includes_match.new.files) in
    let there : MayMiss R false (list_all (matches s old) (includes_in c.in-Some.includes.now.items)) =
    rw (← c.deref.ensures.value, ← c.loop-key.invariant.keeps.same_map) (subst (λ b. MayMiss R b (list_all (matches s (F.file_map c.loop-key.files)) (includes_in c.deref.result.now))) c.if-matches.false (c.in_ok-matches.ensures.outcome right)) in
    record {
      can = tt;
      finite = tt;
      keeps = keeps_all c.args.files.now c.loop-key.files c.includes_match.new.files c.loop-key.invariant.keeps c.in_ok-matches.ensures.keeps;
      known = subst (λ m. AreKnown s m c.includes_match.new.known) c.loop-key.invariant.keeps.same_map (c.in_ok-matches.ensures.known right);
      seen = (
        (c.in-Some.key.now, c.in-Some.includes.now) ∷ c.loop-key.invariant.seen.0,
        c.loop-key.invariant.seen.1 ∙ ap (λ l. l ++ c.loop-key.invariant.seen.0) c.in-Some.ensures.steps ∙ append_assoc (rev_source c.next.new.self) ((c.in-Some.key.now, c.in-Some.includes.now) ∷ []) c.loop-key.invariant.seen.0,
      );
      so_far = misses result_in (matches s old) (rev_source c.loop-key.key-iterator) (rev_source c.next.new.self) (c.in-Some.key.now, c.in-Some.includes.now) _
          (F.faults c.args.files.now) (F.faults c.loop-key.files) (F.faults c.includes_match.new.files)
          c.in-Some.ensures.steps c.loop-key.invariant.keeps.not_lower c.in_ok-matches.ensures.keeps.not_lower c.loop-key.invariant.so_far there;
    }

pub returns-then-matches-clause-outcome : goal.returns-then-matches-clause-outcome
returns-then-matches-clause-outcome g c =
    let F = g.F.Files in
    let s = setting_of g.H.HashState.hash c.args.context.now in
    let old = F.file_map c.args.files.now in
    let right : AreKnown s (F.file_map c.loop-key.files) c.loop-key.known = rw c.loop-key.invariant.keeps.same_map c.loop-key.invariant.known in
    let R = Rose (F.faults c.loop-key.files) (F.faults c.includes_match.new.files) in
    let there : MayMiss R true (list_all (matches s old) (includes_in c.in-Some.includes.now.items)) =
    rw (← c.deref.ensures.value, ← c.loop-key.invariant.keeps.same_map) (subst (λ b. MayMiss R b (list_all (matches s (F.file_map c.loop-key.files)) (includes_in c.deref.result.now))) c.if-matches.true (c.in_ok-matches.ensures.outcome right)) in
    rw c.as_str.ensures.value (hits result_in (matches s old) c.args.results.now.entries (rev_source c.loop-key.key-iterator) (rev_source c.next.new.self) c.loop-key.invariant.seen.0 (c.in-Some.key.now, c.in-Some.includes.now)
    (F.faults c.args.files.now) (F.faults c.loop-key.files) (F.faults c.includes_match.new.files)
    c.in-Some.ensures.steps c.loop-key.invariant.seen.1 c.in_ok-matches.ensures.keeps.not_lower c.loop-key.invariant.so_far there)
