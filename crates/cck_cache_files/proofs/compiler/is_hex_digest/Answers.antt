use Rattle.std.proofs.Common.{◌≡◌, ◌∙◌, ◌==◌, ◌&&◌, true, length, ap, arith, rules, tests, sym}
use Rattle.std.proofs.lemmas.Bool.Decides.{nat_tests}
use Rattle.std.proofs.lemmas.Iterator.{YieldsList-from_slice}
use Rattle.std.proofs.lemmas.Iterator.Search.{all_from_yields_List}
use Rattle.std.specs.Char.{is_ascii_hexdigit}
use Rattle.std.specs.List.{list_all}
use Rattle.cck_cache_files.proofs.compiler.is_hex_digest.Goals as goal

pub returns-then-text-eq-DIGITS : goal.returns-then-text-eq-DIGITS
returns-then-text-eq-DIGITS c =
    let all : c.all.result ≡ list_all is_ascii_hexdigit c.args.text.now =
    all_from_yields_List is_ascii_hexdigit _ _ c.all.result c.all.ensures.ran (YieldsList-from_slice c.args.text.now cc) (λ x b q k. search (rules, tests)) in
    let size : (length c.args.text.now == 64) ≡ true = grind (arith, nat_tests) in
    all ∙ sym (ap (λ b. b && list_all is_ascii_hexdigit c.args.text.now) size)
