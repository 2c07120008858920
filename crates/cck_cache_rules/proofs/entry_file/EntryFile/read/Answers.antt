use Rattle.std.proofs.Common.{codes}
use Rattle.std.specs.Option.{option_map}
use Rattle.std.proofs.lemmas.Result.{IfOk-weaker}
use Rattle.cck_cache_rules.specs.Files.{IsEntryFile, entry_fields, entry_parts}
use Rattle.cck_cache_rules.specs.Reading.{lent_lists}
use Rattle.cck_cache_rules.specs.Stored.{stored_file}
use Rattle.cck_cache_rules.proofs.ReadingLemmas.{read_twice}
use Rattle.cck_cache_rules.proofs.entry_file.EntryFile.read.Goals as goal

pub returns-in_default : goal.returns-in_default
returns-in_default c =
    let none = rw c.in_default.is at c.in_ok-parts.ensures in
    λ x right same. none (entry_parts x) same

pub returns : goal.returns
returns c =
    IfOk-weaker c.file_of.result _ _
    (λ found read. read_twice IsEntryFile (stored_file (codes "cck entry 4\n")) entry_parts c.args.bytes.now (lent_lists c.in-Some.parts) (option_map entry_fields found) (rw c.in-Some.is at c.in_ok-parts.ensures) read)
    c.file_of.ensures
