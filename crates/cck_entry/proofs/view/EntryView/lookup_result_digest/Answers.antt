use Rattle.std.proofs.Common.{option_map, subst}
use Rattle.std.specs.FinMap.{entries}
use Rattle.cck_files.specs.Calls.{Rose}
use Rattle.cck_include.specs.Setting.{setting_in}
use Rattle.cck_entry.specs.Find.{IsLookup}
use Rattle.cck_entry.proofs.StatusLemmas.{without_statuses}
use Rattle.jiff.specs.Words.{plain_zone}
use Rattle.cck_entry.proofs.view.EntryView.lookup_result_digest.Goals as goal

pub returns-in-Ok-clause-outcome : goal.returns-in-Ok-clause-outcome
returns-in-Ok-clause-outcome g c =
    let s = setting_in g.H.HashState.hash c.args.config c.args.moment (plain_zone c.args.zone.now) c.args.vars.now in
    subst (λ test. IsLookup test (entries c.args.self.now) (Rose (g.F.Files.faults c.args.files.now) (g.F.Files.faults c.lookup_with_statuses.new.files)) (option_map (λ k. k.now) c.in-Ok.found))
    (without_statuses c.new-statuses.result s (g.F.Files.file_map c.args.files.now) c.new-statuses.ensures) c.in-Ok.ensures.outcome
