use Rattle.std.proofs.Common.{None, Some, rules, subst}
use Rattle.std.specs.Option.{option_map}
use Rattle.cck_cache_rules.specs.Files.{object_fields, object_file}
use Rattle.cck_cache_rules.specs.Reading.{IsAny, ReadsBack}
use Rattle.cck_cache_rules.proofs.ContentLemmas.{none_read, other_read}
use Rattle.cck_cache_rules.proofs.ReadingLemmas.{of_any}
use Rattle.cck_cache_rules.specs.Contents.{key_of_object}
use Rattle.cck_cache_rules.proofs.contents.object_in.Goals as goal

pub returns-in_default : goal.returns-in_default
returns-in_default c =
    none_read IsAny key_of_object object_file c.args.key.now c.args.bytes.now
    (of_any object_file c.args.bytes.now None (subst (λ found. ReadsBack object_file c.args.bytes.now (option_map object_fields found)) c.in_default.is c.in_ok-file.ensures))

pub returns-else-eq : goal.returns-else-eq
returns-else-eq c =
    other_read IsAny key_of_object object_file c.args.key.now c.args.bytes.now (object_fields c.in-Some.file)
    (of_any object_file c.args.bytes.now (Some (object_fields c.in-Some.file)) (subst (λ found. ReadsBack object_file c.args.bytes.now (option_map object_fields found)) c.in-Some.is c.in_ok-file.ensures)) (search rules)

pub returns-then-eq : goal.returns-then-eq
returns-then-eq c =
    (search rules, of_any object_file c.args.bytes.now (Some (object_fields c.in-Some.file)) (subst (λ found. ReadsBack object_file c.args.bytes.now (option_map object_fields found)) c.in-Some.is c.in_ok-file.ensures))
