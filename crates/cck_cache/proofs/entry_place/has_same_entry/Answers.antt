use Rattle.std.proofs.Common.{◌∙◌, sym}
use Rattle.std.specs.Cmp.Lexicographic.{bytes_decides}
use Rattle.cck_cache_rules.proofs.EqualityLemmas.{tests_decide}
use Rattle.cck_cache.proofs.entry_place.has_same_entry.Goals as goal

pub returns-then-eq : goal.returns-then-eq
returns-then-eq c =
    let a = c.args.a.now in
    let b = c.args.b.now in
    let entries = (bytes_decides a.entry.items b.entry.items).0 (sym c.eq.ensures ∙ c.if-eq.true) in
    let tests = tests_decide a.tests.items b.tests.items in
    (λ e. (entries, tests.0 (sym c.eq-then-eq.ensures ∙ e)), λ h. c.eq-then-eq.ensures ∙ tests.1 h.1)
