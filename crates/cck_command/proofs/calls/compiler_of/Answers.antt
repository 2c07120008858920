use Rattle.std.proofs.Common.{◌≡◌, ◌∙◌, ap, rules}
use Rattle.cck_script.specs.Surroundings.{executable_path}
use Rattle.cck_command.proofs.ExecutableLemmas.{first_digest}
use Rattle.cck_command.proofs.calls.compiler_of.Goals as goal

pub returns : goal.returns
returns g c =
    let path : c.in_ok-executable.executable.items ≡ executable_path = search rules in
    record {
      zone_is = search rules;
      executable = ap (λ e. e.items) c.in_ok-new.ensures.executable ∙ path;
      executable_digest = first_digest g.H.HashState.hash _ _ c.in_ok-files.ensures.files (rw path at c.in_ok-new.ensures.digest);
    }
