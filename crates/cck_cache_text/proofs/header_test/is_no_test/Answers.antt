use Rattle.std.proofs.Common.{◌≡◌, ◌∙◌, ◌||◌, ◌-◌, List, ℕ, Bool, ap, sym, take, drop, length, length-drop, arith}
use Rattle.std.proofs.lemmas.List.{take_all}
use Rattle.cck_cache_text.specs.HeaderTests.{is_passed_over}
use Rattle.cck_cache_text.proofs.header_test.is_no_test.Goals as goal

pub returns-else-is_operand : goal.returns-else-is_operand
returns-else-is_operand c =
    let line = c.args.line.now in
    let place = c.args.place in
    let rest : take (length line - place) (drop place line) ≡ drop place line = take_all (length line - place) (drop place line) (omega (arith, length-drop place line)) in
    c.is_passed_over.ensures ∙ (ap (λ (after : List ℕ). is_passed_over (take place line) after) rest ∙ ap (λ (asked : Bool). asked || is_passed_over (take place line) (drop place line)) (sym c.if-is_operand.false ∙ c.is_operand.ensures))
