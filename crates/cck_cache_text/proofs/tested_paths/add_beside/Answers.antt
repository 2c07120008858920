use Rattle.std.proofs.Common.{◌≡◌, ℕ, List, true, false, ◌++◌, sym, ap, subst, ◌∙◌}
use Rattle.std.proofs.lemmas.List.{append-nil}
use Rattle.cck_cache_text.specs.HeaderTests.{fields_of}
use Rattle.cck_cache_text.specs.Names.{directory_of}
use Rattle.cck_cache_text.specs.Sets.{Adds}
use Rattle.cck_cache_text.specs.TestedPaths.{IsBesideFile, IsEither}
use Rattle.cck_cache_text.proofs.SetLemmas.{adds_as, adds_nothing}
use Rattle.cck_cache_text.proofs.tested_paths.add_beside.Goals as goal

false_true : false ≡ true → ⊥
false_true e = cc

pub returns-in_ok-add_either : goal.returns-in_ok-add_either
returns-in_ok-add_either c =
    let file = c.args.file.now in
    let test = fields_of c.args.test.now in
    let joined = c.in_ok-path.path.items in
    let old = c.args.paths.now in
    let new = c.add_either.new.paths in
    let same : joined ≡ directory_of file ++ test.name =
    c.in_ok-path.ensures ∙ (append-nil _ ∙ (ap (λ d. d ++ c.deref.result.now) c.directory_of.ensures ∙ ap (λ n. directory_of file ++ n) c.deref.ensures.value))
    in
    let added : Adds (IsEither (directory_of file ++ test.name)) old new = subst (λ (p : List ℕ). Adds (IsEither p) old new) same c.in_ok-add_either.ensures in
    adds_as (IsEither (directory_of file ++ test.name)) (IsBesideFile file test) old new (λ q e. (c.if-test.true, e)) (λ q h. h.1) added

pub returns-else-test : goal.returns-else-test
returns-else-test c = adds_nothing (IsBesideFile c.args.file.now (fields_of c.args.test.now)) c.args.paths.now (λ q h. false_true (sym c.if-test.false ∙ h.0))
