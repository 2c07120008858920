use Rattle.std.proofs.Common.{◌≡◌, ◌∙◌, ◌-◌, [], true, length, map, take, ap, sym, arith}
use Rattle.std.specs.List.{list_any}
use Rattle.std.proofs.lemmas.List.{get_or-map, length-map}
use Rattle.std.proofs.lemmas.List.Folds.{list_any_at}
use Rattle.cck_strip.specs.Text.{is_separator}
use Rattle.cck_strip.proofs.boundary.has_inner_separator.Goals as goal

pub returns-then-has_separator : goal.returns-then-has_separator
returns-then-has_separator c =
    let basedirs = c.args.basedirs.now in
    let basedir = c.basedir-item.result in
    let here : list_any is_separator (take (length basedir.items - 1) basedir.items) ≡ true =
    ap (λ n. list_any is_separator (take (n - 1) basedir.items)) (sym (c.len.ensures ∙ (sym c.deref.ensures.len ∙ ap length c.deref.ensures.value)))
    ∙ (ap (λ l. list_any is_separator (take (c.len.result - 1) l)) (sym c.deref.ensures.value) ∙ (sym c.has_separator.ensures ∙ c.if-has_separator.true)) in
    sym (list_any_at (λ basedir. list_any is_separator (take (length basedir - 1) basedir)) (map (λ b. b.items) basedirs) c.loop-basedir.basedir-index []
    (omega (arith, length-map basedirs (λ b. b.items), c.loop-basedir-test.true))
    (ap (λ b. list_any is_separator (take (length b - 1) b)) (get_or-map (λ b. b.items) basedirs c.loop-basedir.basedir-index basedir [] c.loop-basedir-test.true ∙ ap (λ v. v.items) (sym c.basedir-item.is)) ∙ here))
