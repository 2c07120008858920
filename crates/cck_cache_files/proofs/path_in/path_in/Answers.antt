use Rattle.std.proofs.Common.{◌∙◌, codes, sym, append_assoc}
use Rattle.cck_cache_files.proofs.path_in.path_in.Goals as goal

pub returns : goal.returns
returns c = c.in_ok-format.ensures.ok ∙ sym (append_assoc c.args.directory.now (codes "/") c.args.name.now)
