use Rattle.std.proofs.Common.{codes}
use Rattle.std.proofs.lemmas.Str.Pattern.{contains_text}
use Rattle.cck_cache_files.proofs.listing.file_in.Goals as goal

pub returns : goal.returns
returns g c = record {
  path_is = c.in_ok-path.ensures;
  is_new = contains_text c.contains-is_new.result (codes ".new") c.args.name.now c.contains-is_new.ensures.cases;
}
