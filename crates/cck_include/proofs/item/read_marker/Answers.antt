use Rattle.std.proofs.Common.{sym, ◌∙◌}
use Rattle.cck_include.proofs.ItemLemmas.{malformed_item, named_item, unnamed_item, some_byte}
use Rattle.cck_include.proofs.item.read_marker.Goals as goal

pub returns-in-Unnamed-clause-begins : goal.returns-in-Unnamed-clause-begins
returns-in-Unnamed-clause-begins c = unnamed_item c.args.starts_line c.args.text.now c.in-Unnamed.end c.requires c.in-Unnamed.ensures

pub returns-in-Named-clause-begins : goal.returns-in-Named-clause-begins
returns-in-Named-clause-begins c = named_item c.args.starts_line c.args.text.now c.in-Named.begin c.in-Named.end c.in-Named.name.now c.in-Named.is_system c.requires c.in-Named.ensures

pub returns-in-Malformed-clause-begins : goal.returns-in-Malformed-clause-begins
returns-in-Malformed-clause-begins c = malformed_item c.args.starts_line c.args.text.now c.requires (some_byte c.args.starts_line c.args.text.now (λ e. let apart = sym e ∙ c.requires in cc)) c.in-Malformed.ensures
