use Rattle.std.proofs.Common.{◌≡◌, ◌∙◌, List, ℕ, All, ap, codes, subst}
use Rattle.cck_cache_files.specs.Listing.{AddsFilesIn, IsFileIn, path_in}
use Rattle.cck_cache_files.specs.Paths.{directory_bytes}
use Rattle.cck_cache_files.specs.declared.listing.StoredFile.{StoredFile}
use Rattle.cck_cache_files.proofs.ListingLemmas.{all_added}
use Rattle.cck_cache_files.proofs.listing.list_counts.Goals as goal

pub returns : goal.returns
returns g c =
    let path : c.as_str.result.now ≡ path_in (directory_bytes c.args.store.now) (codes "counts") =
    c.as_str.ensures.value ∙ c.in_ok-directory.ensures ∙ ap (λ (d : List ℕ). path_in d (codes "counts")) c.directory.ensures in
    let P : List StoredFile → Type 0 = λ files. AddsFilesIn c.as_str.result.now files c.add_files.new.files.items in
    let Q : List ℕ → Type 0 = λ directory. All (IsFileIn directory) c.add_files.new.files.items in
    subst Q path (all_added c.as_str.result.now c.add_files.new.files.items (subst P c.new-files.ensures.items c.in_ok-add_files.ensures))
