use Rattle.std.proofs.Common.{Some, refl, sym, ◌∙◌, codes, append_assoc}
use Rattle.std.proofs.lemmas.List.{append_cancel_left}
use Rattle.std.proofs.lemmas.Slice.Eq.{strip_prefix_is}
use Rattle.std.proofs.lemmas.Bool.Decides.{Decides-eqb}
use Rattle.cck_digest.specs.Frames.{length_bytes}
use Rattle.cck_cache_rules.proofs.ReadingLemmas.{no_number}
use Rattle.cck_cache_rules.proofs.value.payload_of.Goals as goal

pub returns-in-None : goal.returns-in-None
returns-in-None c =
    let kind = codes "cck zstd 1\n" in
    let begins = strip_prefix_is Decides-eqb c.args.value.now kind (Some c.in-Some.rest) c.in-Some.ensures.cases in (
      refl,
      λ size frame is.
          no_number size frame c.in-Some.rest.now c.in-None.ensures
          (append_cancel_left kind _ _ (sym (append_assoc kind (length_bytes size) frame) ∙ (sym is ∙ begins))),
    )
