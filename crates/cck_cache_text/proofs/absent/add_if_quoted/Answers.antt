use Rattle.std.proofs.Common.{◌≡◌, ℕ, List, ◌++◌, true, false, IsTrue, sym, ◌∙◌}
use Rattle.cck_cache_text.specs.Absent.{IsBeside}
use Rattle.cck_cache_text.specs.Sets.{has_key}
use Rattle.cck_cache_text.proofs.SetLemmas.{adds_as, adds_nothing, contains-has}
use Rattle.cck_cache_text.proofs.absent.add_if_quoted.Goals as goal

false_true : false ≡ true → ⊥
false_true e = cc

pub returns-then-not-contains : goal.returns-then-not-contains
returns-then-not-contains c =
    let named = c.args.named.now in
    let quoted = c.args.quoted.now in
    let rest = c.args.rest.now in
    let none : has_key quoted rest ≡ false = sym (contains-has quoted rest) ∙ sym c.if-not-contains.ensures in
    adds_nothing (λ absent. IsTrue (has_key quoted rest) × ((directory : List ℕ) × IsTrue (has_key named.directories directory) × IsBeside (has_key named.names) (directory ++ rest) absent)) c.args.paths.now
    (λ q h. false_true (sym none ∙ h.0))

pub returns : goal.returns
returns c =
    let named = c.args.named.now in
    let quoted = c.args.quoted.now in
    let rest = c.args.rest.now in
    let known : has_key quoted rest ≡ true = sym (contains-has quoted rest) ∙ sym c.if-not-contains.ensures in
    adds_as (λ absent. (directory : List ℕ) × IsTrue (has_key named.directories directory) × IsBeside (has_key named.names) (directory ++ rest) absent)
    (λ absent. IsTrue (has_key quoted rest) × ((directory : List ℕ) × IsTrue (has_key named.directories directory) × IsBeside (has_key named.names) (directory ++ rest) absent))
    c.args.paths.now c.add_in_places.new.paths (λ q h. (known, h)) (λ q h. h.1) c.in_ok-add_in_places.ensures
