use Rattle.std.proofs.Common.{inl, inr, refl, sym, subst}
use Rattle.std.proofs.lemmas.Bool.{false≢true}
use Rattle.cck_cache_rules.specs.Shown.{ShowsBase}
use Rattle.cck_path.specs.Bytes.{Bytes, lists_of}
use Rattle.cck_cache.proofs.record.made_shows_base.Goals as goal

pub returns-then-shows_base-2 : goal.returns-then-shows_base-2
returns-then-shows_base-2 c =
    let shows = λ (b : Bytes). ShowsBase (lists_of c.args.bases.now) b in
    (λ t. inr (inl (subst shows c.deref-2.ensures.value (c.if-shows_base-2.ensures.0 refl))), λ o. refl)

pub returns : goal.returns
returns c =
    let shows = λ (b : Bytes). ShowsBase (lists_of c.args.bases.now) b in (
      λ t. inr (inr (subst shows c.deref-3.ensures.value (c.shows_base-3.ensures.0 t))),
      λ o. elim o [
        | inl x ↦ absurd (false≢true (c.if-shows_base.ensures.1 (subst shows (sym c.deref.ensures.value) x)))
        | inr p ↦ elim p [
          | inl x ↦ absurd (false≢true (c.if-shows_base-2.ensures.1 (subst shows (sym c.deref-2.ensures.value) x)))
          | inr x ↦ c.shows_base-3.ensures.1 (subst shows (sym c.deref-3.ensures.value) x)
        ]
      ],
    )
