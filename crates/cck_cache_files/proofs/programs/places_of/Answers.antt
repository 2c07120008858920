use Rattle.std.proofs.Common.{◌∙◌, List, ℕ, ap, map, lit<}
use Rattle.std.specs.Str.Iter.{split_has_more, split_pattern, split_text}
use Rattle.std.proofs.lemmas.Iterator.Consumers.{YieldsList-end}
use Rattle.std.proofs.lemmas.Iterator.Splits.{YieldsList-from_str_split}
use Rattle.cck_cache_files.specs.Programs.{absolute, place_in}
use Rattle.cck_cache_files.proofs.ProgramLemmas.{no_slash_by_contains}
use Rattle.cck_cache_files.proofs.programs.places_of.Goals as goal

pub returns : goal.returns
returns c =
    let same = c.into_iter-element-iterator.ensures.into_iter_gives in
    let split = c.split-element-items.ensures in
    let place : List ℕ → List ℕ = λ element. absolute c.args.directory.now (place_in element c.args.name.now) in
    record {
      plain = λ _. c.loop-element.invariant
          ∙ ap (map place) (YieldsList-end (YieldsList-from_str_split 58 c.args.path.now (lit< tt) (ap split_text same ∙ split.text) (ap split_has_more same ∙ split.has_more) (ap split_pattern same ∙ split.pattern)) c.loop-element.yielded _ c.loop-element.yielded_by _ _ c.in-None.is c.next.ensures.steps).0;
      path_is = λ slash. absurd (slash (no_slash_by_contains c.args.name.now c.if-contains.ensures.cases));
    }
