use Rattle.std.proofs.Common.{◌∙◌, Some, ap, inl, inr, option_map, refl, sym}
use Rattle.std.proofs.lemmas.Result.{IfErr-weaker}
use Rattle.cck_files.proofs.CallsLemmas.{keeps_itself}
use Rattle.cck_hasher.specs.Opening.{text_of}
use Rattle.cck_hasher.proofs.hasher.asking.find.Goals as goal

pub returns-in_default-clause-keeps : goal.returns-in_default-clause-keeps
returns-in_default-clause-keeps g c = keeps_itself c.args.files.now

pub returns-in_default-clause-found : goal.returns-in_default-clause-found
returns-in_default-clause-found g c = inl (inl (ap (option_map text_of) c.in_default.is), refl, refl)

pub returns-in-Default-clause-keeps : goal.returns-in-Default-clause-keeps
returns-in-Default-clause-keeps g c = c.ask.ensures.keeps

pub returns-in-Default-clause-found : goal.returns-in-Default-clause-found
returns-in-Default-clause-found g c =
    inr (c.as_str.result.now, ap (option_map text_of) c.in-Some.is ∙ ap Some (sym c.as_str.ensures.value), c.in-Default.is, c.ask.ensures.asks)

pub returns-in-Default-clause-reason : goal.returns-in-Default-clause-reason
returns-in-Default-clause-reason g c =
    IfErr-weaker c.ask.result _ _ (λ e why. (c.as_str.result.now, ap (option_map text_of) c.in-Some.is ∙ ap Some (sym c.as_str.ensures.value), why)) c.ask.ensures.reason

pub returns-in-ForceRecache-clause-keeps : goal.returns-in-ForceRecache-clause-keeps
returns-in-ForceRecache-clause-keeps g c = keeps_itself c.args.files.now

pub returns-in-ForceRecache-clause-found : goal.returns-in-ForceRecache-clause-found
returns-in-ForceRecache-clause-found g c = inl (inr c.in-ForceRecache.is, refl, refl)
