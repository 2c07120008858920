use Rattle.std.proofs.Common.{◌≡◌, ◌∙◌, false, Bor, List, ℕ, ap, map, subst}
use Rattle.cck_cache_text.specs.Included.{AddsLines, IsIncludedBy}
use Rattle.cck_cache_text.specs.SearchList.{text_lines}
use Rattle.cck_cache_text.specs.declared.included.Included.{Included}
use Rattle.cck_cache_text.proofs.IncludedLemmas.{both_included, from_nothing}
use Rattle.cck_cache_text.proofs.included.included_in.Goals as goal

pub returns : goal.returns
returns c =
    let text = c.args.text.now in
    let lines : map (λ (line : Bor (List ℕ)). line.now) c.deref.result.now ≡ text_lines text = ap (map (λ (line : Bor (List ℕ)). line.now)) c.deref.ensures.value ∙ c.in_ok-lines.ensures in
    let old : Included = record { quoted = c.new.result; bracketed = c.new-2.result } in
    let adds : AddsLines (text_lines text) old c.add_lines.new.included = subst (λ (ls : List (List ℕ)). AddsLines ls old c.add_lines.new.included) lines c.in_ok-add_lines.ensures in
    record {
      quoted = both_included text (map (λ a. a.items) c.args.arguments.now) c.new.result c.add_lines.new.included.quoted c.add_given.new.names c.new.ensures.empty adds.quoted c.in_ok-add_given.ensures;
      bracketed = from_nothing (IsIncludedBy (text_lines text) false) c.new-2.result c.add_lines.new.included.bracketed c.new-2.ensures.empty adds.bracketed;
    }
