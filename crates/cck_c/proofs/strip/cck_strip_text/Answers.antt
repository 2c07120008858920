use Rattle.std.proofs.Common.{◌≡◌, ◌==◌, ◌∙◌, List, [], ◌∷◌, true, length, sym, arith}
use Rattle.std.proofs.lemmas.Grind.{common_steps}
use Rattle.cck_strip.specs.Beginnings.{AllEmpty}
use Rattle.cck_strip.specs.SiteLemmas.{text_site-within}
use Rattle.cck_strip.proofs.PieceLemmas.{Remains-none, Remains-stripped}
use Rattle.cck_strip.proofs.SoughtLemmas.{no_word, text_site-empty}
use Rattle.cck_c.specs.Bytes.{texts_of}
use Rattle.cck_c.specs.declared.bytes.Bytes.{Bytes}
use Rattle.cck_c.proofs.strip.cck_strip_text.Goals as goal

none : (basedirs : List Bytes) → (length basedirs == 0) ≡ true → AllEmpty (texts_of basedirs)
none [] empty word c some = no_word word c
none (basedir ∷ basedirs) empty word c some = absurd (grind (arith, common_steps))

pub returns-then-is_empty-clause-unchanged : goal.returns-then-is_empty-clause-unchanged
returns-then-is_empty-clause-unchanged c e =
    let empty = none c.args.basedirs.now (sym c.is_empty.ensures ∙ c.if-is_empty.true) in
    sym (Remains-stripped _ _ _ _ (text_site-within _ _) (Remains-none _ _ (text_site-within _ _) (text_site-empty _ _ empty)))
