use Rattle.std.proofs.Common.{◌≡◌, ◌∙◌, List, ℕ, IfOk, ap, string_bytes, subst}
use Rattle.cck_cache_files.specs.Listing.{path_in}
use Rattle.cck_cache_files.specs.Paths.{directory_bytes, kind_name}
use Rattle.cck_cache_files.proofs.store_directory.StoreDirectory.directory_of.Goals as goal

pub returns : goal.returns
returns g c =
    let store = directory_bytes c.args.self.now in
    let kinds = path_in store (kind_name c.args.kind) in
    let front : c.as_str-3.result.now ≡ kinds =
    c.as_str-3.ensures.value ∙ c.in_ok-directory.ensures ∙ ap (λ (d : List ℕ). path_in d c.as_str-2.result.now) c.as_str.ensures.value ∙ ap (path_in store) c.as_str-2.ensures in
    let P : List ℕ → Type 0 = λ bytes. IfOk c.path_in-2.result (λ path. string_bytes path ≡ bytes) in
    subst P (ap (λ (d : List ℕ). path_in d c.first_digits.result.now) front ∙ ap (path_in kinds) c.first_digits.ensures) c.path_in-2.ensures
