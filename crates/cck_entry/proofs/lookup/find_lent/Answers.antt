use Rattle.std.proofs.Common.{rules, ◌≡◌, Some, map, inl, sym, [], ◌∷◌, ◌++◌, true, false, ap, subst, ◌∙◌, append_assoc}
use Rattle.std.proofs.lemmas.List.{append-nil}
use Rattle.std.specs.List.{list_all}
use Rattle.std.specs.Iterator.Adapters.{rev_source}
use Rattle.std.specs.Slice.Iter.{iter_rest}
use Rattle.cck_files.proofs.CallsLemmas.{keeps_all, keeps_itself}
use Rattle.cck_files.specs.Calls.{Rose}
use Rattle.cck_entry.specs.Known.{AreKnown}
use Rattle.cck_entry.specs.Matching.{MayMiss}
use Rattle.cck_entry.specs.Lent.{includes_begun, result_lent}
use Rattle.cck_entry.specs.Find.{IsLookup, found_in}
use Rattle.cck_entry.specs.Statuses.{matches_with}
use Rattle.cck_entry.proofs.LookupLemmas.{hits, misses}
use Rattle.cck_include.specs.JudgeContext.{setting_of}
use Rattle.cck_entry.proofs.lookup.find_lent.Goals as goal

pub loop-lent-init : goal.loop-lent-init
loop-lent-init g c =
    let F = g.F.Files in
    let s = setting_of g.H.HashState.hash c.args.context.now in
    let left = iter_rest (rev_source c.into_iter-lent-iterator.result) in
    let all : left ≡ c.args.results.now = search rules in
    record {
      keeps = keeps_itself c.args.files.now;
      known = c.new-known.ensures s (F.file_map c.args.files.now);
      seen = ([], sym (append-nil left ∙ all));
      so_far = inl (ap (λ l. found_in (matches_with c.args.statuses.now s (F.file_map c.args.files.now)) (map result_lent l)) all);
    }

pub loop-lent-preserved : goal.loop-lent-preserved
loop-lent-preserved g c =
    let F = g.F.Files in
    let s = setting_of g.H.HashState.hash c.args.context.now in
    let old = F.file_map c.args.files.now in
    let lent = c.in-Some.lent.now in
    let left = iter_rest (rev_source c.next.new.self) in
    let right : AreKnown s (F.file_map c.loop-lent.files) c.loop-lent.known = rw c.loop-lent.invariant.keeps.same_map c.loop-lent.invariant.known in
    let R = Rose (F.faults c.loop-lent.files) (F.faults c.lent_matches.new.files) in
    let includes = includes_begun lent.count lent.includes.now in
    let there : MayMiss R false (list_all (matches_with c.args.statuses.now s old) includes) =
    rw (← c.loop-lent.invariant.keeps.same_map) (subst (λ b. MayMiss R b (list_all (matches_with c.args.statuses.now s (F.file_map c.loop-lent.files)) includes)) c.if-matches.false (c.in_ok-matches.ensures.outcome right)) in
    record {
      keeps = keeps_all c.args.files.now c.loop-lent.files c.lent_matches.new.files c.loop-lent.invariant.keeps c.in_ok-matches.ensures.keeps;
      known = subst (λ m. AreKnown s m c.lent_matches.new.known) c.loop-lent.invariant.keeps.same_map (c.in_ok-matches.ensures.known right);
      seen = (
        lent ∷ c.loop-lent.invariant.seen.0,
        c.loop-lent.invariant.seen.1 ∙ ap (λ l. l ++ c.loop-lent.invariant.seen.0) c.in-Some.ensures.steps ∙ append_assoc left (lent ∷ []) c.loop-lent.invariant.seen.0,
      );
      so_far = misses result_lent (matches_with c.args.statuses.now s old) (iter_rest (rev_source c.loop-lent.lent-iterator)) left lent _
          (F.faults c.args.files.now) (F.faults c.loop-lent.files) (F.faults c.lent_matches.new.files)
          c.in-Some.ensures.steps c.loop-lent.invariant.keeps.not_lower c.in_ok-matches.ensures.keeps.not_lower c.loop-lent.invariant.so_far there;
    }

pub returns-then-matches-clause-outcome : goal.returns-then-matches-clause-outcome
returns-then-matches-clause-outcome g c =
    let F = g.F.Files in
    let s = setting_of g.H.HashState.hash c.args.context.now in
    let old = F.file_map c.args.files.now in
    let lent = c.in-Some.lent.now in
    let right : AreKnown s (F.file_map c.loop-lent.files) c.loop-lent.known = rw c.loop-lent.invariant.keeps.same_map c.loop-lent.invariant.known in
    let R = Rose (F.faults c.loop-lent.files) (F.faults c.lent_matches.new.files) in
    let includes = includes_begun lent.count lent.includes.now in
    let there : MayMiss R true (list_all (matches_with c.args.statuses.now s old) includes) =
    rw (← c.loop-lent.invariant.keeps.same_map) (subst (λ b. MayMiss R b (list_all (matches_with c.args.statuses.now s (F.file_map c.loop-lent.files)) includes)) c.if-matches.true (c.in_ok-matches.ensures.outcome right)) in
    subst (λ k. IsLookup (matches_with c.args.statuses.now s old) (map result_lent c.args.results.now) (Rose (F.faults c.args.files.now) (F.faults c.lent_matches.new.files)) (Some k)) (sym c.key.ensures)
    (hits result_lent (matches_with c.args.statuses.now s old) c.args.results.now (iter_rest (rev_source c.loop-lent.lent-iterator)) (iter_rest (rev_source c.next.new.self)) c.loop-lent.invariant.seen.0 lent
    (F.faults c.args.files.now) (F.faults c.loop-lent.files) (F.faults c.lent_matches.new.files)
    c.in-Some.ensures.steps c.loop-lent.invariant.seen.1 c.in_ok-matches.ensures.keeps.not_lower c.loop-lent.invariant.so_far there)
