use Rattle.std.proofs.lemmas.Bool.Decides.{Decides-and}
use Rattle.std.specs.Cmp.{booleans_Decides}
use Rattle.std.specs.Cmp.Lexicographic.{bytes_decides}
use Rattle.cck_compiler.proofs.laws.artifact_descriptor_equality_is_exact.Goals as goal

pub returns : goal.returns
returns c = λ a b. Decides-and _ _ (bytes_decides a.path.items b.path.items) (booleans_Decides a.optional b.optional)
