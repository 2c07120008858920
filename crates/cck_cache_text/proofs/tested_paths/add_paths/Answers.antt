use Rattle.std.proofs.Common.{◌≡◌, true, false, List, map, ℕ, sym, ap, subst, ◌∙◌}
use Rattle.std.proofs.lemmas.List.{append-nil}
use Rattle.cck_cache_text.specs.HeaderTests.{fields_of}
use Rattle.cck_cache_text.specs.Sets.{Adds}
use Rattle.cck_cache_text.specs.TestedPaths.{IsEither, IsEitherInList, is_absolute}
use Rattle.cck_cache_text.proofs.TestedLemmas.{paths_absolute, paths_relative}
use Rattle.cck_cache_text.proofs.tested_paths.add_paths.Goals as goal

pub returns-then-starts_with : goal.returns-then-starts_with
returns-then-starts_with c =
    let test = fields_of c.args.test.now in
    let old = c.args.paths.now in
    let new = c.add_either.new.paths in
    let is : is_absolute test.name ≡ true = ap is_absolute (sym c.deref.ensures.value) ∙ sym c.if-starts_with.ensures.value in
    let same : c.in_ok-joined.field-0.items ≡ test.name = c.in_ok-joined.ensures ∙ (append-nil _ ∙ (append-nil _ ∙ c.deref-then-starts_with.ensures.value)) in
    paths_absolute (map (λ d. d.items) c.args.directories.now) c.args.file.now test old new is (subst (λ (p : List ℕ). Adds (IsEither p) old new) same c.in_ok-add_either.ensures)

pub returns : goal.returns
returns c =
    let directories = map (λ d. d.items) c.args.directories.now in
    let test = fields_of c.args.test.now in
    let middle = c.add_beside.new.paths in
    let new = c.add_in_list.new.paths in
    let is : is_absolute test.name ≡ false = ap is_absolute (sym c.deref.ensures.value) ∙ sym c.if-starts_with.ensures.value in
    paths_relative directories c.args.file.now test c.args.paths.now new middle is c.in_ok-add_beside.ensures
    (subst (λ (n : List ℕ). Adds (IsEitherInList directories n) middle new) c.deref-2.ensures.value c.in_ok-add_in_list.ensures)
