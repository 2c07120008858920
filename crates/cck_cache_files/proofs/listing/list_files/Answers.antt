use Rattle.std.proofs.Common.{◌≡◌, ◌∙◌, List, ℕ, All, ap, string_bytes, subst, sym}
use Rattle.cck_cache_files.specs.Listing.{AreFileNames, IsFileBelow, path_in}
use Rattle.cck_cache_files.specs.Paths.{directory_bytes, kind_name}
use Rattle.cck_cache_files.proofs.ListingLemmas.{added_below, name_at}
use Rattle.cck_cache_files.proofs.listing.list_files.Goals as goal

pub loop-name-preserved : goal.loop-name-preserved
loop-name-preserved g c =
    let directory = c.as_str-directory.result.now in
    let name = string_bytes c.name-item.result in
    added_below directory c.as_str-in-loop-name-2.result.now name c.loop-name.files.items c.add_files.new.files.items
    (c.as_str-in-loop-name-2.ensures.value ∙ c.in_ok-path.ensures ∙ ap (path_in directory) c.as_str-in-loop-name.ensures.value) c.loop-name.invariant c.in_ok-add_files.ensures
    (name_at c.deref-name-items.result.now c.loop-name.name-index c.name-item.result (subst AreFileNames (sym c.deref-name-items.ensures.value) c.in_ok-names.ensures) c.loop-name-test.true c.name-item.is)

pub returns : goal.returns
returns g c =
    let store = directory_bytes c.args.store.now in
    let path : c.as_str-directory.result.now ≡ path_in store (kind_name c.args.kind) =
    c.as_str-directory.ensures.value ∙ c.in_ok-owned.ensures ∙ ap (λ (d : List ℕ). path_in d c.as_str.result.now) c.directory.ensures ∙ ap (path_in store) c.as_str.ensures in
    let P : List ℕ → Type 0 = λ directory. All (IsFileBelow directory) c.loop-name.files.items in
    subst P path c.loop-name.invariant
