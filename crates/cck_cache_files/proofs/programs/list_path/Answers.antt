use Rattle.std.proofs.Common.{◌∙◌}
use Rattle.std.specs.Fmt.{decimal}
use Rattle.cck_cache_files.proofs.ProgramLemmas.{list_path_joined}
use Rattle.cck_cache_files.proofs.programs.list_path.Goals as goal

pub returns : goal.returns
returns c =
    let name = c.last_part-name.result.now in
    (name, c.last_part-name.ensures, c.in_ok-format.ensures.ok ∙ list_path_joined c.args.store.now name (decimal c.args.length))
