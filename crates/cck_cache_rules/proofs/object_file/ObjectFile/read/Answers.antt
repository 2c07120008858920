use Rattle.std.proofs.Common.{codes}
use Rattle.std.specs.Option.{option_map}
use Rattle.std.proofs.lemmas.Result.{IfOk-weaker}
use Rattle.cck_cache_rules.specs.Files.{object_fields, object_file, object_parts}
use Rattle.cck_cache_rules.specs.Reading.{IsAny, lent_lists}
use Rattle.cck_cache_rules.specs.Stored.{stored_file}
use Rattle.cck_cache_rules.proofs.ReadingLemmas.{from_any, of_any, read_twice}
use Rattle.cck_cache_rules.proofs.object_file.ObjectFile.read.Goals as goal

pub returns-in_default : goal.returns-in_default
returns-in_default c =
    let none = rw c.in_default.is at c.in_ok-parts.ensures in
    λ x same. none (object_parts x) same

pub returns : goal.returns
returns c =
    let kind = codes "cck object 4\n" in
    IfOk-weaker c.file_of.result _ _
    (λ found read. from_any object_file c.args.bytes.now (option_map object_fields found)
    (read_twice IsAny (stored_file kind) object_parts c.args.bytes.now (lent_lists c.in-Some.parts) (option_map object_fields found) (rw c.in-Some.is at c.in_ok-parts.ensures)
    (of_any object_parts (lent_lists c.in-Some.parts) (option_map object_fields found) read)))
    c.file_of.ensures
