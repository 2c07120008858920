use Rattle.std.proofs.Common.{codes, sym, ◌∙◌}
use Rattle.std.proofs.lemmas.Bool.{false≢true, not-false}
use Rattle.std.proofs.lemmas.Bool.Decides.{not_from_Decides}
use Rattle.cck_cache_rules.proofs.ListLemmas.{ends_decided, starts_decided}
use Rattle.cck_cache_rules.proofs.base.is_plain.Goals as goal
use Rattle.cck_cache_rules.proofs.base.is_plain.Goals.{then-starts_with, else-starts_with}

pub returns-else-not-ends_with : goal.returns-else-not-ends_with
returns-else-not-ends_with c = (
  λ q. absurd (false≢true (sym c.if-not-ends_with.false ∙ q)),
  λ plain. elim c.if-starts_with.branch [
    | then-starts_with w ↦
        let ends = not-false w.ends_with.result (sym w.value-is ∙ c.if-not-ends_with.false) in
        absurd (plain.ended ((ends_decided c.args.base.now (codes "/") w.ends_with.result w.ends_with.ensures.value).0 ends))
    | else-starts_with w ↦
        absurd (not_from_Decides _ (starts_decided c.args.base.now (codes "/") c.starts_with.result c.starts_with.ensures.value) w.if-starts_with.false plain.absolute)
  ],
)
