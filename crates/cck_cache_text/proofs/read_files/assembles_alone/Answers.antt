use Rattle.std.proofs.Common.{◌≡◌, ℕ, List, Some, None, map, sym, ap, ◌∙◌}
use Rattle.std.specs.Global.{Vec}
use Rattle.std.specs.List.{list_all}
use Rattle.cck_cache_text.specs.ReadFiles.{is_of_compiler}
use Rattle.cck_cache_text.specs.Rule.{IsRuleRead}
use Rattle.cck_cache_text.proofs.read_files.assembles_alone.Goals as goal

pub returns-in-Some : goal.returns-in-Some
returns-in-Some c =
    let input = c.args.input.now in
    let names = map (λ n. n.items) c.in-Some.names.items in
    let read : IsRuleRead c.args.rule.now (Some names) = rw c.in-Some.is at c.in_ok-names.ensures in
    let all : c.are_of_compiler.result ≡ list_all (is_of_compiler input) names =
    c.are_of_compiler.ensures ∙ ap (λ (ns : List (Vec ℕ)). list_all (is_of_compiler input) (map (λ n. n.items) ns)) c.deref.ensures.value in
    (λ h. (names, read.0, sym all ∙ h), λ other. all ∙ (ap (list_all (is_of_compiler input)) (sym (read.1 other.0 other.1)) ∙ other.2))

pub returns-in-None : goal.returns-in-None
returns-in-None c =
    let read : IsRuleRead c.args.rule.now None = rw c.in-None.is at c.in_ok-names.ensures in
    (λ h. cc, λ other. absurd (read other.0 other.1))
