use Rattle.std.proofs.Common.{map}
use Rattle.std.specs.Char.{to_ascii_lowercase}
use Rattle.std.proofs.lemmas.Slice.Eq.{bytes_eq-Decides}
use Rattle.cck_files.proofs.WrapperLemmas.{same_test}
use Rattle.cck_files.proofs.wrapper.is_same_name.Goals as goal

pub returns : goal.returns
returns c = same_test c.eq_ignore_ascii_case.result _ _ c.eq_ignore_ascii_case.ensures.test
    (bytes_eq-Decides (map to_ascii_lowercase c.args.a.now) (map to_ascii_lowercase c.args.b.now))
