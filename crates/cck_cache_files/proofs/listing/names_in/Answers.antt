use Rattle.std.proofs.Common.{◌≡◌, ◌∷◌, ◌++◌, ◌∙◌, [], rules}
use Rattle.std.specs.Fs.{dir_entry_path}
use Rattle.cck_cache_files.proofs.ListingLemmas.{one_more_name}
use Rattle.cck_cache_files.proofs.listing.names_in.Goals as goal

pub loop-entry-preserved : goal.loop-entry-preserved
loop-entry-preserved g c =
    let pushed : c.push.new.self.items ≡ c.loop-entry.names.items ++ c.in_ok-from_str.field-0 ∷ [] = search rules in
    one_more_name c.loop-entry.names.items c.push.new.self.items c.in_ok-from_str.field-0 (dir_entry_path c.in_ok-entry.entry) c.loop-entry.invariant pushed
    (◌∙◌ {b = c.file_name.result.now} c.in_ok-from_str.ensures.ok c.file_name.ensures)
