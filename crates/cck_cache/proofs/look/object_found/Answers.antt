use Rattle.std.proofs.Common.{None, string_bytes, subst}
use Rattle.cck_cache_rules.specs.Contents.{ReadsFor, key_of_object}
use Rattle.cck_cache_rules.specs.Files.{object_file}
use Rattle.cck_cache_rules.specs.Reading.{IsAny}
use Rattle.cck_path.specs.Bytes.{Bytes}
use Rattle.cck_cache.proofs.LookLemmas.{damaged_in}
use Rattle.cck_cache.proofs.look.object_found.Goals as goal

pub returns-in_default-clause-read : goal.returns-in_default-clause-read
returns-in_default-clause-read c =
    let bytes = c.args.bytes.now in
    damaged_in c.args.outputs.now (string_bytes c.args.name) bytes c.args.file c.damaged_found.result c.damaged_found.ensures.wrong
    (subst (λ (name : Bytes). ReadsFor IsAny key_of_object object_file name bytes None) c.as_str.ensures.value (rw c.in_default.is at c.in_ok-object.ensures))
