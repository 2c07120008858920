use Rattle.std.proofs.Common.{◌≡◌, ℕ, List, [], map, length, get_or, sym, ap, ◌∙◌, subst, arith}
use Rattle.std.proofs.lemmas.List.{get_or-map}
use Rattle.cck_cache_text.specs.Absent.{IsBeside, path_in}
use Rattle.cck_cache_text.specs.Sets.{Adds, has_key}
use Rattle.cck_cache_text.proofs.AbsentLemmas.{InDirectory}
use Rattle.cck_cache_text.proofs.SetLemmas.{Below, adds_more, adds_none_below}
use Rattle.cck_cache_text.proofs.absent.add_in.Goals as goal

pub loop-directory-init : goal.loop-directory-init
loop-directory-init c = adds_none_below (InDirectory (has_key c.args.named.now.names) (map (λ d. d.items) c.args.directories.now) c.args.rest.now) c.args.paths.now

pub loop-directory-preserved : goal.loop-directory-preserved
loop-directory-preserved c =
    let names = has_key c.args.named.now.names in
    let directories = map (λ d. d.items) c.args.directories.now in
    let rest = c.args.rest.now in
    let i = c.loop-directory.directory-index in
    let directory = c.directory-item.result in
    let at : directory.items ≡ get_or directories i [] = ap (λ d. d.items) c.directory-item.is ∙ sym (get_or-map (λ d. d.items) c.args.directories.now i directory [] c.loop-directory-test.true) in
    let same : c.in_ok-path_in.field-0.items ≡ path_in (get_or directories i []) rest = c.in_ok-path_in.ensures ∙ ap (λ d. path_in d rest) (c.deref.ensures.value ∙ at)
    in
    adds_more (InDirectory names directories rest) i c.args.paths.now c.loop-directory.paths c.add_path.new.paths c.loop-directory.invariant
    (subst (λ (p : List ℕ). Adds (IsBeside names p) c.loop-directory.paths c.add_path.new.paths) same c.in_ok-add_path.ensures)

pub returns : goal.returns
returns c =
    let end : c.loop-directory.directory-index ≡ length c.args.directories.now = omega arith in
    subst (λ (n : ℕ). Adds (Below (InDirectory (has_key c.args.named.now.names) (map (λ d. d.items) c.args.directories.now) c.args.rest.now) n) c.args.paths.now c.loop-directory.paths) end c.loop-directory.invariant
