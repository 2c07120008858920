use Rattle.std.proofs.Common.{◌≡◌, ℕ, true, false, map, length, ◌∙◌, subst, ◌↔◌, ◌<◌, IsTrue, arith}
use Rattle.std.proofs.lemmas.List.{append-nil, length-map}
use Rattle.cck_cache_text.specs.Absent.{IsBeforeDirectory, IsInDirectory, precompiled}
use Rattle.cck_cache_text.specs.Sets.{has_key}
use Rattle.cck_cache_text.proofs.AbsentLemmas.{for_name, within_more}
use Rattle.cck_cache_text.proofs.SetLemmas.{adds_more, adds_none_below}
use Rattle.cck_cache_text.proofs.absent.add_name.Goals as goal

false_true : false ≡ true → ⊥
false_true e = cc

pub loop-place-init : goal.loop-place-init
loop-place-init c = record {
  found = (λ t. absurd (false_true t), λ w. absurd (omega (arith, w.1)));
  added = adds_none_below (IsBeforeDirectory (has_key c.args.named.now.directories) (has_key c.args.named.now.names) (λ rest. IsTrue (has_key c.args.quoted.now rest)) (map (λ d. d.items) c.args.directories.now) c.args.name.now) c.add.new.paths;
}

pub loop-place-preserved : goal.loop-place-preserved
loop-place-preserved c =
    let directories = map (λ d. d.items) c.args.directories.now in
    record {
      found = within_more directories c.args.name.now c.loop-place.place c.loop-place.is_found c.in_ok-is_found.field-0 c.loop-place.invariant.found c.in_ok-is_found.ensures.found;
      added = adds_more (IsBeforeDirectory (has_key c.args.named.now.directories) (has_key c.args.named.now.names) (λ rest. IsTrue (has_key c.args.quoted.now rest)) directories c.args.name.now) c.loop-place.place c.add.new.paths c.loop-place.paths c.add_before.new.paths c.loop-place.invariant.added c.in_ok-is_found.ensures.added;
    }

pub returns-clause-found : goal.returns-clause-found
returns-clause-found c =
    let directories = map (λ d. d.items) c.args.directories.now in
    let end : c.loop-place.place ≡ length directories = omega (arith, length-map c.args.directories.now (λ d. d.items)) in
    subst (λ (n : ℕ). IsTrue c.loop-place.is_found ↔ ((place : ℕ) × (place < n) × IsInDirectory directories c.args.name.now place)) end c.loop-place.invariant.found

pub returns-clause-added : goal.returns-clause-added
returns-clause-added c =
    let directories = map (λ d. d.items) c.args.directories.now in
    let first : c.in_ok-joined.field-0.items ≡ precompiled c.args.name.now = c.in_ok-joined.ensures ∙ append-nil _ in
    for_name (has_key c.args.named.now.directories) (has_key c.args.named.now.names) (λ rest. IsTrue (has_key c.args.quoted.now rest)) directories c.args.name.now c.in_ok-joined.field-0.items c.loop-place.place c.args.paths.now c.add.new.paths c.loop-place.paths first
    (omega (arith, length-map c.args.directories.now (λ d. d.items))) c.in_ok-add.ensures c.loop-place.invariant.added
