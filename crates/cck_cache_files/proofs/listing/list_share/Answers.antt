use Rattle.std.proofs.Common.{◌≡◌, ◌∙◌, [], List, ℕ, subst}
use Rattle.cck_cache_files.specs.Listing.{AddsFilesIn}
use Rattle.cck_cache_files.specs.Paths.{directory_bytes, key_directory}
use Rattle.cck_cache_files.specs.declared.listing.StoredFile.{StoredFile}
use Rattle.cck_cache_files.specs.declared.store_directory.Kind.TheVariants.{Entry, Object}
use Rattle.cck_cache_files.proofs.ListingLemmas.{share_added}
use Rattle.cck_cache_files.proofs.listing.list_share.Goals as goal

pub returns : goal.returns
returns g c =
    let store = directory_bytes c.args.store.now in
    let key = c.args.key.now in
    let entries : c.as_str.result.now ≡ key_directory store Entry key = c.as_str.ensures.value ∙ c.in_ok-entries.ensures in
    let objects : c.as_str-2.result.now ≡ key_directory store Object key = c.as_str-2.ensures.value ∙ c.in_ok-objects.ensures in
    let First : List StoredFile → Type 0 = λ files. AddsFilesIn c.as_str.result.now files c.add_files.new.files.items in
    let P : List ℕ → Type 0 = λ directory. AddsFilesIn directory [] c.add_files.new.files.items in
    let Q : List ℕ → Type 0 = λ directory. AddsFilesIn directory c.add_files.new.files.items c.add_files-2.new.files.items in
    share_added store key c.add_files.new.files.items c.add_files-2.new.files.items
    (subst P entries (subst First c.new-files.ensures.items c.in_ok-add_files.ensures)) (subst Q objects c.in_ok-add_files-2.ensures)
