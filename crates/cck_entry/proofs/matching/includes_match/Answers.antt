use Rattle.std.proofs.Common.{rules, ◌≡◌, ◌+◌, true, false, refl, subst, drop}
use Rattle.cck_files.proofs.CallsLemmas.{keeps_all, keeps_itself, rose_earlier}
use Rattle.cck_files.specs.Calls.{Rose}
use Rattle.cck_entry.proofs.MatchLemmas.{all_more, one_missed, rest_here}
use Rattle.cck_include.specs.Include.{include_in, include_lent, includes_in}
use Rattle.cck_entry.specs.Known.{AreKnown}
use Rattle.cck_entry.specs.Matching.{MayMiss, matches}
use Rattle.cck_include.specs.JudgeContext.{setting_of}
use Rattle.cck_entry.proofs.matching.includes_match.Goals as goal

pub returns-in_err-matches-clause-known : goal.returns-in_err-matches-clause-known
returns-in_err-matches-clause-known g c = λ right.
    let F = g.F.Files in
    let s = setting_of g.H.HashState.hash c.args.context.now in
    let before : AreKnown s (F.file_map c.loop-include.files) c.loop-include.known = rw c.loop-include.invariant.keeps.same_map (c.loop-include.invariant.known right) in
    subst (λ m. AreKnown s m c.include_matches.new.known) c.loop-include.invariant.keeps.same_map (c.include_matches.ensures.known before)

pub returns-then-not-matches-clause-known : goal.returns-then-not-matches-clause-known
returns-then-not-matches-clause-known g c = λ right.
    let F = g.F.Files in
    let s = setting_of g.H.HashState.hash c.args.context.now in
    let before : AreKnown s (F.file_map c.loop-include.files) c.loop-include.known = rw c.loop-include.invariant.keeps.same_map (c.loop-include.invariant.known right) in
    subst (λ m. AreKnown s m c.include_matches.new.known) c.loop-include.invariant.keeps.same_map (c.include_matches.ensures.known before)

pub loop-include-preserved : goal.loop-include-preserved
loop-include-preserved g c =
    let F = g.F.Files in
    let s = setting_of g.H.HashState.hash c.args.context.now in
    let old = F.file_map c.args.files.now in
    let x = c.include-item.result in
    let xs = c.args.includes.now in
    let i = c.loop-include.include-index in
    let before : AreKnown s old c.args.known.now → AreKnown s (F.file_map c.loop-include.files) c.loop-include.known = λ right. rw c.loop-include.invariant.keeps.same_map (c.loop-include.invariant.known right) in
    let R = Rose (F.faults c.loop-include.files) (F.faults c.include_matches.new.files) in
    let is : c.in_ok-matches.matches ≡ true = search rules in
    let fits : AreKnown s old c.args.known.now → matches s old (include_in x) ≡ true = λ right.
    rw (← c.lend.ensures, ← c.loop-include.invariant.keeps.same_map) (subst (λ b. MayMiss R b (matches s (F.file_map c.loop-include.files) (include_lent c.lend.result))) is (c.in_ok-matches.ensures.outcome (before right))) in
    record {
      keeps = keeps_all _ _ _ c.loop-include.invariant.keeps c.in_ok-matches.ensures.keeps;
      known = λ right. subst (λ m. AreKnown s m c.include_matches.new.known) c.loop-include.invariant.keeps.same_map (c.include_matches.ensures.known (before right));
      rest = λ right. all_more (matches s old) (include_in x) (includes_in (drop i xs)) (includes_in (drop (i + 1) xs)) (includes_in xs)
          (rest_here xs i x c.loop-include-test.true c.include-item.is) (fits right) (c.loop-include.invariant.rest right);
    }

pub loop-include-init : goal.loop-include-init
loop-include-init g c = record { keeps = keeps_itself c.args.files.now; known = λ right. right; rest = λ right. refl }

pub returns-in_err-matches-clause-keeps : goal.returns-in_err-matches-clause-keeps
returns-in_err-matches-clause-keeps g c =
    keeps_all c.args.files.now c.loop-include.files c.include_matches.new.files c.loop-include.invariant.keeps c.include_matches.ensures.keeps

pub returns-then-not-matches-clause-keeps : goal.returns-then-not-matches-clause-keeps
returns-then-not-matches-clause-keeps g c =
    keeps_all c.args.files.now c.loop-include.files c.include_matches.new.files c.loop-include.invariant.keeps c.in_ok-matches.ensures.keeps

pub returns-then-not-matches-clause-outcome : goal.returns-then-not-matches-clause-outcome
returns-then-not-matches-clause-outcome g c = λ right.
    let F = g.F.Files in
    let s = setting_of g.H.HashState.hash c.args.context.now in
    let old = F.file_map c.args.files.now in
    let x = c.include-item.result in
    let xs = c.args.includes.now in
    let i = c.loop-include.include-index in
    let before : AreKnown s (F.file_map c.loop-include.files) c.loop-include.known = rw c.loop-include.invariant.keeps.same_map (c.loop-include.invariant.known right) in
    let R = Rose (F.faults c.loop-include.files) (F.faults c.include_matches.new.files) in
    let is : c.in_ok-matches.matches ≡ false = search rules in
    let there : MayMiss R false (matches s old (include_in x)) =
    rw (← c.lend.ensures, ← c.loop-include.invariant.keeps.same_map) (subst (λ b. MayMiss R b (matches s (F.file_map c.loop-include.files) (include_lent c.lend.result))) is (c.in_ok-matches.ensures.outcome before)) in
    one_missed R (Rose (F.faults c.args.files.now) (F.faults c.include_matches.new.files)) (matches s old) (include_in x) (includes_in (drop i xs)) (includes_in (drop (i + 1) xs)) (includes_in xs)
    (rose_earlier (F.faults c.args.files.now) (F.faults c.loop-include.files) (F.faults c.include_matches.new.files) c.loop-include.invariant.keeps.not_lower)
    (rest_here xs i x c.loop-include-test.true c.include-item.is) there (c.loop-include.invariant.rest right)

pub returns-clause-keeps : goal.returns-clause-keeps
returns-clause-keeps g c = c.loop-include.invariant.keeps

pub returns-clause-known : goal.returns-clause-known
returns-clause-known g c = c.loop-include.invariant.known
