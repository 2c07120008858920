use Rattle.std.proofs.Common.{◌≡◌, ◌∙◌, ◌++◌, Bool, inl, inr, true, false, refl, subst}
use Rattle.std.proofs.lemmas.Result.{IfOk-weaker}
use Rattle.cck_cache_rules.specs.PathTest.{tests_of}
use Rattle.cck_cache_files.specs.Absence.{AreTestsOf, IsRefusedByPath}
use Rattle.cck_cache_files.specs.TextCopies.{IsCopiesVerdict}
use Rattle.cck_cache.specs.Record.{HasAskedTests, HasPathTests, HasUnnamedTests, IsSeen, IsSeenWith}
use Rattle.cck_cache.proofs.InputLemmas.{calm_kept}
use Rattle.cck_cache.proofs.RecordLemmas.{calm_grown, files_of, seen_over, tested_over, three_lists}
use Rattle.cck_files.proofs.CallsLemmas.{keeps_all}
use Rattle.cck_files.specs.FileMap.{FileMap}
use Rattle.cck_path.specs.Bytes.{lists_of}
use Rattle.cck_cache.proofs.record.see_by.Goals as goal

pub returns-in-Refused : goal.returns-in-Refused
returns-in-Refused g c renamed =
    let preprocessed = c.args.preprocessed.now in
    let request = preprocessed.request.now in
    inr (inl (record {
      states = c.absence_of.new.states;
      since_is = c.in_ok-refusal.ensures.kept.since ∙ c.new-states.ensures.since;
      refused = subst (λ (r : Bool). IsRefusedByPath r c.absence_of.new.states request.directory.now preprocessed.text.now (lists_of request.arguments.items) preprocessed.printed.now c.in-Refused.refusal) renamed (rw c.in-Refused.is at c.in_ok-refusal.ensures.absence);
    }))

pub returns-in-Refused-tested : goal.returns-in-Refused-tested
returns-in-Refused-tested g c renamed =
    let request = c.args.preprocessed.now.request.now in
    let text = c.args.preprocessed.now.text.now in
    let cwd = c.as_bytes-cwd.result.now in
    let after = c.add_named_files.new.files in
    inl (record {
      files = after.files;
      are_files = files_of request text cwd c.in_ok-files.files after c.in_ok-files.ensures.calm c.in_ok-files.ensures.input (rw c.bytes.ensures at c.in_ok-is_doubtful.ensures.named) c.as_bytes-cwd.ensures.value;
      states = c.tested_by.new.states;
      since_is = c.tested_by.ensures.kept.since ∙ c.new-asked.ensures.since;
      refused = rw c.in-Refused-tested.is at c.in_ok-tested.ensures.tested;
    })

pub returns-then-branch : goal.returns-then-branch
returns-then-branch g c renamed =
    let request = c.args.preprocessed.now.request.now in
    let text = c.args.preprocessed.now.text.now in
    let cwd = c.as_bytes-cwd.result.now in
    let after = c.add_named_files.new.files in
    inr (inr (inr (inl (record {
      files = after.files;
      are_files = files_of request text cwd c.in_ok-files.files after c.in_ok-files.ensures.calm c.in_ok-files.ensures.input (rw c.bytes.ensures at c.in_ok-is_doubtful.ensures.named) c.as_bytes-cwd.ensures.value;
      found = subst (λ (m : FileMap). IsCopiesVerdict m request text true) c.in_ok-tested.ensures.keeps.same_map (rw c.if-branch.true at c.in_ok-may_have_copies.ensures.found);
      is_other = refl;
    }))))

pub returns-in-Refused-others : goal.returns-in-Refused-others
returns-in-Refused-others g c renamed =
    inr (inr (inl (record {
      states = c.unnamed_by.new.states;
      since_is = c.unnamed_by.ensures.kept.since ∙ (c.in_ok-is_doubtful.ensures.kept.since ∙ (c.in_ok-refusal.ensures.kept.since ∙ c.new-states.ensures.since));
      refused = rw c.in-Refused-others.is at c.in_ok-others.ensures.unnamed;
    })))

pub returns-in_ok-tests-in-Tests-others : goal.returns-in_ok-tests-in-Tests-others
returns-in_ok-tests-in-Tests-others g c renamed =
    let request = c.args.preprocessed.now.request.now in
    let since = c.args.preprocessed.now.since in
    let printed = c.args.preprocessed.now.printed.now in
    let text = c.args.preprocessed.now.text.now in
    let cwd = c.as_bytes-cwd.result.now in
    let before = c.in_ok-files.files in
    let after = c.add_named_files.new.files in
    let middle = c.tested_by.new.files in
    let compared = c.may_have_copies.new.files in
    let new = c.unnamed_by.new.files in
    let made = tests_of c.in-Tests.tests.items in
    let asked = tests_of c.in-Tests-tested.asked_tests.items in
    let others = tests_of c.in-Tests-others.unnamed_tests.items in
    let all = tests_of c.in_ok-tests-in-Tests-others.tests.items in
    let path_tests : HasPathTests request since printed text made = record {
      states = c.absence_of.new.states;
      since_is = c.in_ok-refusal.ensures.kept.since ∙ c.new-states.ensures.since;
      tests_are = subst (λ (r : Bool). AreTestsOf r c.absence_of.new.states request.directory.now text (lists_of request.arguments.items) printed made) renamed (rw c.in-Tests.is at c.in_ok-refusal.ensures.absence);
    } in
    let tested : HasAskedTests request since printed text after.files asked = record {
      states = c.tested_by.new.states;
      since_is = c.tested_by.ensures.kept.since ∙ c.new-asked.ensures.since;
      tests_are = rw c.in-Tests-tested.is at c.in_ok-tested.ensures.tested;
    } in
    let unnamed : HasUnnamedTests request since printed text compared.files others = record {
      states = c.unnamed_by.new.states;
      since_is = c.unnamed_by.ensures.kept.since ∙ (c.in_ok-is_doubtful.ensures.kept.since ∙ (c.in_ok-refusal.ensures.kept.since ∙ c.new-states.ensures.since));
      tests_are = rw c.in-Tests-others.is at c.in_ok-others.ensures.unnamed;
    } in
    let are = files_of request text cwd before after c.in_ok-files.ensures.calm c.in_ok-files.ensures.input (rw c.bytes.ensures at c.in_ok-is_doubtful.ensures.named) c.as_bytes-cwd.ensures.value in
    let first = keeps_all after middle compared c.in_ok-tested.ensures.keeps c.in_ok-may_have_copies.ensures.keeps in
    let keeps = keeps_all after compared new first c.in_ok-others.ensures.keeps in
    let no_copies = subst (λ (m : FileMap). IsCopiesVerdict m request text false) c.in_ok-tested.ensures.keeps.same_map (rw c.if-branch.false at c.in_ok-may_have_copies.ensures.found) in
    let there : HasUnnamedTests request since printed text after.files others = subst (λ (m : FileMap). HasUnnamedTests request since printed text m others) first.same_map unnamed in
    let is_all : all ≡ (made ++ asked) ++ others =
    three_lists c.in-Tests.tests.items c.in-Tests-tested.asked_tests.items c.in-Tests-others.unnamed_tests.items c.in_ok-all_tests-in-Tests-others.field-0.items c.in_ok-tests-in-Tests-others.tests.items c.in_ok-all_tests-in-Tests-others.ensures c.in_ok-tests-in-Tests-others.ensures
    in
    let calm = calm_kept after new keeps (calm_grown text cwd before after (rw c.bytes.ensures at c.in_ok-is_doubtful.ensures.named) c.in_ok-files.ensures.calm) in
    let over = tested_over request since printed text after.files new.files made asked others all keeps.same_map are no_copies path_tests tested there is_all in
    IfOk-weaker c.seen_with.result (IsSeenWith c.args.preprocessed.now.renames new all) (IsSeen request since printed text)
    (λ seen. seen_over request since printed text c.args.preprocessed.now.renames new all seen renamed calm over) c.seen_with.ensures
