use Rattle.std.specs.Io.KnownBytes.{Appends}
use Rattle.cck_entry.proofs.EntryLemmas.{is_written}
use Rattle.cck_entry.proofs.entry.PreprocessorCacheEntry.serialize_to.Goals as goal

pub returns-clause-text : goal.returns-clause-text
returns-clause-text g c =
    is_written c.self.inside.results.entries c.args.self.now c.write_entry.result (λ text. Appends (g.W.Write.contents c.args.writer.now) (g.W.Write.contents c.write_entry.new.writer) text) c.self.view_is
    c.self.invariant.0 c.write_entry.ensures.count c.write_entry.ensures.fits c.write_entry.ensures.text
