use Rattle.std.proofs.Common.{rules, subst}
use Rattle.std.specs.Option.{option_map}
use Rattle.cck_cache_rules.specs.Files.{IsEntryFile, entry_fields, entry_file}
use Rattle.cck_cache_rules.specs.Reading.{ReadsBackOf}
use Rattle.cck_cache_rules.proofs.ContentLemmas.{none_read, other_read}
use Rattle.cck_cache_rules.specs.Contents.{key_of_entry}
use Rattle.cck_cache_rules.proofs.contents.entry_in.Goals as goal

pub returns-in_default : goal.returns-in_default
returns-in_default c =
    none_read IsEntryFile key_of_entry entry_file c.args.key.now c.args.bytes.now
    (subst (λ found. ReadsBackOf IsEntryFile entry_file c.args.bytes.now (option_map entry_fields found)) c.in_default.is c.in_ok-file.ensures)

pub returns-else-eq : goal.returns-else-eq
returns-else-eq c =
    other_read IsEntryFile key_of_entry entry_file c.args.key.now c.args.bytes.now (entry_fields c.in-Some.file)
    (subst (λ found. ReadsBackOf IsEntryFile entry_file c.args.bytes.now (option_map entry_fields found)) c.in-Some.is c.in_ok-file.ensures) (search rules)
