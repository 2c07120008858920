use Rattle.std.proofs.Common.{◌∙◌}
use Rattle.cck_compiler.proofs.ExtraFiles.{text_test}
use Rattle.cck_compiler.proofs.extra_files.is_text.Goals as goal

pub returns : goal.returns
returns c = c.is_ok.ensures.value ∙ text_test c.from_utf8.result c.args.bytes.now _ c.from_utf8.ensures.cases
