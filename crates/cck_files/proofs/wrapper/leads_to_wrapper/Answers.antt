use Rattle.std.proofs.Common.{◌∙◌, sym, ap, inl}
use Rattle.cck_files.specs.Calls.{Rose}
use Rattle.cck_files.specs.FileMap.{canonical_at}
use Rattle.cck_path.specs.Path.{components}
use Rattle.cck_files.specs.Wrapper.{is_wrapper, leads_if, leads_to_wrapper}
use Rattle.cck_files.proofs.WrapperLemmas.{not_canonical}
use Rattle.cck_files.proofs.wrapper.leads_to_wrapper.Goals as goal

pub returns-in-Ok-clause-outcome : goal.returns-in-Ok-clause-outcome
unfolding leads_to_wrapper
returns-in-Ok-clause-outcome g c = inl (c.is_wrapper.ensures ∙ ap (λ s. is_wrapper (components s)) c.deref.ensures.value ∙ ap leads_if (sym c.in-Ok.ensures.outcome))

pub returns-in_default-clause-outcome : goal.returns-in_default-clause-outcome
unfolding leads_to_wrapper
returns-in_default-clause-outcome g c = let F = g.F.Files in
    not_canonical (canonical_at (F.file_map c.args.files.now) (components c.args.path.now)) (Rose (F.faults c.args.files.now) (F.faults c.canonical.new.self)) c.in-Err.error c.in_default.not-Memory c.in-Err.ensures.outcome
