use Rattle.std.proofs.Common.{◌∷◌, ◌++◌, ◌∙◌, [], Some, None, ap, sym}
use Rattle.std.proofs.lemmas.Bool.Decides.{Decides-eqb}
use Rattle.std.proofs.lemmas.Slice.Eq.{strip_suffix_is}
use Rattle.cck_cache_files.proofs.compiler.digest_in.Goals as goal

pub returns-in_err-strip_suffix : goal.returns-in_err-strip_suffix
returns-in_err-strip_suffix c =
    let none = strip_suffix_is Decides-eqb c.args.contents.now c.args.name.now None c.in_err-strip_suffix.ensures.cases in
    rw c.from_residual.ensures (λ digest is. none (digest ++ 32 ∷ []) is.1)

pub returns-then-is_hex_digest : goal.returns-then-is_hex_digest
returns-then-is_hex_digest c =
    let named = strip_suffix_is Decides-eqb c.args.contents.now c.args.name.now (Some c.in_ok-strip_suffix.field-0) c.in_ok-strip_suffix.ensures.cases in
    let spaced = strip_suffix_is Decides-eqb c.in_ok-strip_suffix.field-0.now (32 ∷ []) (Some c.in_ok-digest.digest) c.in_ok-digest.ensures.cases in (
      sym c.is_hex_digest.ensures ∙ c.if-is_hex_digest.true,
      named ∙ ap (λ front. front ++ c.args.name.now) spaced,
    )
