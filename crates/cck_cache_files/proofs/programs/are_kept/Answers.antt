use Rattle.std.proofs.Common.{◌≡◌, ◌++◌, ◌∙◌, List, ℕ, ap, refl, sym, subst, lit<, string_bytes}
use Rattle.std.specs.List.{AllZip}
use Rattle.std.specs.Str.Iter.{split_has_more, split_pattern, split_text}
use Rattle.std.proofs.lemmas.Iterator.Consumers.{YieldsList-end}
use Rattle.std.proofs.lemmas.Iterator.Splits.{YieldsList-from_str_split}
use Rattle.std.proofs.lemmas.Slice.Eq.{bytes_eq-Decides}
use Rattle.cck_cache_files.specs.Programs.{IsKeptLine}
use Rattle.cck_cache_files.proofs.CompilerLemmas.{one_more_line}
use Rattle.cck_cache_files.proofs.programs.are_kept.Goals as goal

pub loop-path-preserved : goal.loop-path-preserved
loop-path-preserved g c =
    let kept = c.in_ok-add_status.ensures c.if-not-branch.false in
    one_more_line (λ held text. held ≡ text) IsKeptLine (string_bytes c.loop-path.lines) (string_bytes c.add_status.new.lines) c.loop-path.yielded c.in-Some.path kept.0 kept.0
    c.loop-path.invariant kept.1 refl (λ text held. kept.2 ∙ ap (λ t. t ++ kept.0) held)

pub returns : goal.returns
returns g c = λ same.
    let split = c.split-path-items.ensures in
    let gives = c.into_iter-path-iterator.ensures.into_iter_gives in
    let P : List (List ℕ) → Type 0 = λ paths. AllZip IsKeptLine paths c.loop-path.invariant.0 in (
      c.loop-path.invariant.0,
      subst P (YieldsList-end (YieldsList-from_str_split 58 c.args.paths.now (lit< tt) (ap split_text gives ∙ split.text) (ap split_has_more gives ∙ split.has_more) (ap split_pattern gives ∙ split.pattern)) c.loop-path.yielded _ c.loop-path.yielded_by _ _ c.in-None.is c.next.ensures.steps).0 c.loop-path.invariant.1,
      sym ((bytes_eq-Decides c.as_str.result.now c.args.statuses.now).0 (sym c.eq.ensures ∙ same)) ∙ c.as_str.ensures.value ∙ c.loop-path.invariant.2,
    )
