use Rattle.std.proofs.Common.{[], true, Some, map, refl, sym}
use Rattle.cck_include.proofs.EachText.{has_one_list}
use Rattle.cck_cache_text.specs.ReadFiles.{AreNamesOf}
use Rattle.cck_cache_text.specs.Rule.{IsRuleRead}
use Rattle.cck_cache_text.proofs.ReadLemmas.{listed_none, listed_rule, only_names, rule_listed}
use Rattle.cck_cache_rules.proofs.ReadingLemmas.{not_empty}
use Rattle.cck_cache_text.proofs.read_files.opens_named_alone.Goals as goal

pub returns-then-is_empty : goal.returns-then-is_empty
returns-then-is_empty c = (λ h. ([], listed_none c.args.rule.now (sym c.if-is_empty.ensures), λ marks are. tt), λ other. refl)

pub returns-in-Some : goal.returns-in-Some
returns-in-Some c =
    let text = c.args.text.now in
    let rule = c.args.rule.now in
    let some = not_empty rule (sym c.if-is_empty.ensures) in
    let names = map (λ n. n.items) c.in-Some.names.items in
    let read : IsRuleRead rule (Some names) = rw c.in-Some.is at c.in_ok-names.ensures in
    let list = has_one_list true text in
    let is = rw c.deref.ensures.value at c.names_all.ensures in (
      λ h. (names, listed_rule rule names some read.0, λ marks are. (is marks are).0 h),
      λ other. (is list.0 list.1).1 (only_names (AreNamesOf list.0) other.0 names (read.1 other.0 (rule_listed rule other.0 some other.1)) (other.2 list.0 list.1)),
    )
