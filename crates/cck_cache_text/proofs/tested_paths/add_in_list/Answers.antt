use Rattle.std.proofs.Common.{◌≡◌, ℕ, List, [], map, length, get_or, sym, ap, ◌∙◌, subst, arith}
use Rattle.std.proofs.lemmas.List.{get_or-map, length-map}
use Rattle.cck_cache_text.specs.Absent.{path_in}
use Rattle.cck_cache_text.specs.Sets.{Adds}
use Rattle.cck_cache_text.specs.TestedPaths.{IsEither}
use Rattle.cck_cache_text.proofs.SetLemmas.{Below, adds_more, adds_none_below}
use Rattle.cck_cache_text.proofs.TestedLemmas.{InList}
use Rattle.cck_cache_text.proofs.tested_paths.add_in_list.Goals as goal

pub loop-directory-init : goal.loop-directory-init
loop-directory-init c = adds_none_below (InList (map (λ d. d.items) c.args.directories.now) c.args.name.now) c.args.paths.now

pub loop-directory-preserved : goal.loop-directory-preserved
loop-directory-preserved c =
    let directories = map (λ d. d.items) c.args.directories.now in
    let name = c.args.name.now in
    let i = c.loop-directory.directory-index in
    let directory = c.directory-item.result in
    let at : directory.items ≡ get_or directories i [] = ap (λ d. d.items) c.directory-item.is ∙ sym (get_or-map (λ d. d.items) c.args.directories.now i directory [] c.loop-directory-test.true) in
    let same : c.in_ok-path_in.field-0.items ≡ path_in (get_or directories i []) name = c.in_ok-path_in.ensures ∙ ap (λ d. path_in d name) (c.deref.ensures.value ∙ at) in
    adds_more (InList directories name) i c.args.paths.now c.loop-directory.paths c.add_either.new.paths c.loop-directory.invariant
    (subst (λ (p : List ℕ). Adds (IsEither p) c.loop-directory.paths c.add_either.new.paths) same c.in_ok-add_either.ensures)

pub returns : goal.returns
returns c =
    let end : c.loop-directory.directory-index ≡ length (map (λ d. d.items) c.args.directories.now) = omega (arith, length-map c.args.directories.now (λ d. d.items)) in
    subst (λ (n : ℕ). Adds (Below (InList (map (λ d. d.items) c.args.directories.now) c.args.name.now) n) c.args.paths.now c.loop-directory.paths) end c.loop-directory.invariant
