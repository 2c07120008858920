use Rattle.std.proofs.Common.{◌≡◌, true, false, subst}
use Rattle.cck_files.proofs.CallsLemmas.{keeps_all, rose_earlier}
use Rattle.cck_files.specs.Calls.{Rose}
use Rattle.cck_entry.proofs.MatchLemmas.{all_more, one_missed}
use Rattle.cck_include.specs.Include.{include_lent}
use Rattle.cck_include.specs.JudgeContext.{setting_of}
use Rattle.cck_entry.specs.Known.{AreKnown}
use Rattle.cck_entry.specs.Matching.{MayMiss}
use Rattle.cck_entry.specs.Lent.{result_lent}
use Rattle.cck_entry.specs.Statuses.{matches_with}
use Rattle.cck_entry.proofs.lookup.lent_matches.Goals as goal

pub returns-in_err-matches-clause-known : goal.returns-in_err-matches-clause-known
returns-in_err-matches-clause-known g c = λ right.
    let F = g.F.Files in
    let s = setting_of g.H.HashState.hash c.args.context.now in
    let before : AreKnown s (F.file_map c.loop-include.files) c.loop-include.known = rw c.loop-include.invariant.keeps.same_map (c.loop-include.invariant.known right) in
    subst (λ m. AreKnown s m c.include_matches_with.new.known) c.loop-include.invariant.keeps.same_map (c.include_matches_with.ensures.known before)

pub returns-then-not-matches-clause-known : goal.returns-then-not-matches-clause-known
returns-then-not-matches-clause-known g c = λ right.
    let F = g.F.Files in
    let s = setting_of g.H.HashState.hash c.args.context.now in
    let before : AreKnown s (F.file_map c.loop-include.files) c.loop-include.known = rw c.loop-include.invariant.keeps.same_map (c.loop-include.invariant.known right) in
    subst (λ m. AreKnown s m c.include_matches_with.new.known) c.loop-include.invariant.keeps.same_map (c.include_matches_with.ensures.known before)

pub loop-include-preserved : goal.loop-include-preserved
loop-include-preserved g c =
    let F = g.F.Files in
    let s = setting_of g.H.HashState.hash c.args.context.now in
    let old = F.file_map c.args.files.now in
    let m = matches_with c.args.statuses.now s in
    let n = include_lent c.in-Some.include in
    let before : AreKnown s old c.args.known.now → AreKnown s (F.file_map c.loop-include.files) c.loop-include.known = λ right. rw c.loop-include.invariant.keeps.same_map (c.loop-include.invariant.known right) in
    let R = Rose (F.faults c.loop-include.files) (F.faults c.include_matches_with.new.files) in
    let fits : AreKnown s old c.args.known.now → m old n ≡ true = λ right.
    rw (← c.loop-include.invariant.keeps.same_map) (subst (λ b. MayMiss R b (m (F.file_map c.loop-include.files) n)) c.if-not-matches.false (c.in_ok-matches.ensures.outcome (before right))) in
    record {
      can = tt;
      finite = tt;
      keeps = keeps_all c.args.files.now c.loop-include.files c.include_matches_with.new.files c.loop-include.invariant.keeps c.in_ok-matches.ensures.keeps;
      known = λ right. subst (λ m. AreKnown s m c.include_matches_with.new.known) c.loop-include.invariant.keeps.same_map (c.include_matches_with.ensures.known (before right));
      left = λ right. all_more (m old) n c.loop-include.include-iterator c.next.new.self (result_lent c.args.lent.now).1 c.in-Some.ensures.steps (fits right) (c.loop-include.invariant.left right);
    }

pub returns-in_err-matches-clause-keeps : goal.returns-in_err-matches-clause-keeps
returns-in_err-matches-clause-keeps g c =
    keeps_all c.args.files.now c.loop-include.files c.include_matches_with.new.files c.loop-include.invariant.keeps c.include_matches_with.ensures.keeps

pub returns-then-not-matches-clause-keeps : goal.returns-then-not-matches-clause-keeps
returns-then-not-matches-clause-keeps g c =
    keeps_all c.args.files.now c.loop-include.files c.include_matches_with.new.files c.loop-include.invariant.keeps c.in_ok-matches.ensures.keeps

pub returns-then-not-matches-clause-outcome : goal.returns-then-not-matches-clause-outcome
returns-then-not-matches-clause-outcome g c = λ right.
    let F = g.F.Files in
    let s = setting_of g.H.HashState.hash c.args.context.now in
    let m = matches_with c.args.statuses.now s in
    let n = include_lent c.in-Some.include in
    let before : AreKnown s (F.file_map c.loop-include.files) c.loop-include.known = rw c.loop-include.invariant.keeps.same_map (c.loop-include.invariant.known right) in
    let R = Rose (F.faults c.loop-include.files) (F.faults c.include_matches_with.new.files) in
    let there : MayMiss R false (m (F.file_map c.args.files.now) n) =
    rw (← c.loop-include.invariant.keeps.same_map) (subst (λ b. MayMiss R b (m (F.file_map c.loop-include.files) n)) c.if-not-matches.true (c.in_ok-matches.ensures.outcome before)) in
    one_missed R (Rose (F.faults c.args.files.now) (F.faults c.include_matches_with.new.files)) (m (F.file_map c.args.files.now)) n c.loop-include.include-iterator c.next.new.self (result_lent c.args.lent.now).1
    (rose_earlier (F.faults c.args.files.now) (F.faults c.loop-include.files) (F.faults c.include_matches_with.new.files) c.loop-include.invariant.keeps.not_lower) c.in-Some.ensures.steps there (c.loop-include.invariant.left right)

pub returns-clause-keeps : goal.returns-clause-keeps
returns-clause-keeps g c = c.loop-include.invariant.keeps

pub returns-clause-known : goal.returns-clause-known
returns-clause-known g c = c.loop-include.invariant.known
