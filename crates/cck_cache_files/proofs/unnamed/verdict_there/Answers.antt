use Rattle.std.proofs.Common.{◌≡◌, ◌∙◌, Bool, inl, subst}
use Rattle.std.specs.Bool.{MatchBool}
use Rattle.cck_cache_files.specs.Unnamed.{LeadsNotTo, LeadsTo, normal_path}
use Rattle.cck_cache_files.proofs.UnnamedLemmas.{passed_there, spelling_there, there_kept}
use Rattle.cck_cache_files.proofs.unnamed.verdict_there.Goals as goal

pub returns-then-is_one_file-clause-verdict : goal.returns-then-is_one_file-clause-verdict
returns-then-is_one_file-clause-verdict g c there =
    let path = c.args.path.now in
    let files = c.args.files.now.files in
    let states = c.leads_to.new.states in
    let whole = c.deref.result.now in
    let is : whole ≡ normal_path path = c.deref.ensures.value ∙ c.in_ok-whole.ensures.bytes in
    spelling_there states files path whole is (there_kept c.args.states.now states c.leads_to.ensures.kept path there)
    (subst (λ (b : Bool). MatchBool b (LeadsTo states files path whole) (LeadsNotTo states files path whole)) c.if-branch.true c.in_ok-leads_to.ensures.leads)

pub returns-then-is_doubtful_spelling-clause-verdict : goal.returns-then-is_doubtful_spelling-clause-verdict
returns-then-is_doubtful_spelling-clause-verdict g c there = inl (there_kept c.args.states.now c.leads_to.new.states c.leads_to.ensures.kept c.args.path.now there)

pub returns-then-branch-clause-verdict : goal.returns-then-branch-clause-verdict
returns-then-branch-clause-verdict g c there = inl (there_kept c.args.states.now c.leads_to.new.states c.leads_to.ensures.kept c.args.path.now there)

pub returns-then-may_be_copy-clause-verdict : goal.returns-then-may_be_copy-clause-verdict
returns-then-may_be_copy-clause-verdict g c there = inl (there_kept c.args.states.now c.leads_to.new.states c.leads_to.ensures.kept c.args.path.now there)

pub returns-clause-verdict : goal.returns-clause-verdict
returns-clause-verdict g c there =
    let path = c.args.path.now in
    let files = c.args.files.now.files in
    let states = c.leads_to.new.states in
    let whole = c.deref.result.now in
    let is : whole ≡ normal_path path = c.deref.ensures.value ∙ c.in_ok-whole.ensures.bytes in
    passed_there states files path whole is (there_kept c.args.states.now states c.leads_to.ensures.kept path there)
    (subst (λ (b : Bool). MatchBool b (LeadsTo states files path whole) (LeadsNotTo states files path whole)) c.if-branch.false c.in_ok-leads_to.ensures.leads)
