use Rattle.std.proofs.Common.{◌≡◌, ◌∙◌, inl, inr, ℕ, true, false, arith, get_or, subst, sym}
use Rattle.std.proofs.lemmas.Bool.{cases_lt}
use Rattle.std.proofs.lemmas.List.{get_or_default}
use Rattle.cck_cache_files.specs.Copies.{IsLike}
use Rattle.cck_cache_files.specs.declared.copies.KnownFile.{KnownFile}
use Rattle.cck_cache_files.proofs.copies.is_like_one.Goals as goal

false_true : false ≡ true → ⊥
false_true e = cc

pub loop-file-preserved : goal.loop-file-preserved
loop-file-preserved c k lt file at like =
    let known = c.args.known.now in
    elim (cases_lt k c.loop-file.file-index) [
      | inl before ↦ c.loop-file.invariant k before file at like
      | inr after ↦ (let same : k ≡ c.loop-file.file-index = omega arith in
          let here : get_or known c.loop-file.file-index file ≡ file = subst (λ (i : ℕ). get_or known i file ≡ file) same at in
          false_true (c.if-is_like.ensures.1 (subst (λ (f : KnownFile). IsLike f c.args.length c.args.seconds) (sym here ∙ get_or_default known c.loop-file.file-index file _ c.loop-file-test.true) like)))
    ]

pub returns : goal.returns
returns c = (
  λ is. absurd (false_true is),
  λ some. absurd (c.loop-file.invariant some.1.0 (omega (arith, some.1.1, c.loop-file-test.false)) some.0 some.1.2 some.2),
)
