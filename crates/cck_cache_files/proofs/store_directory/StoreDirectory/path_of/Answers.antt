use Rattle.std.proofs.Common.{◌≡◌, ◌∙◌, List, ℕ, IfOk, ap, string_bytes, subst}
use Rattle.cck_cache_files.specs.Listing.{path_in}
use Rattle.cck_cache_files.proofs.store_directory.StoreDirectory.path_of.Goals as goal

pub returns : goal.returns
returns g c =
    let P : List ℕ → Type 0 = λ bytes. IfOk c.path_in.result (λ path. string_bytes path ≡ bytes) in
    subst P (ap (λ (d : List ℕ). path_in d c.args.key.now) (c.as_str.ensures.value ∙ c.in_ok-directory.ensures)) c.path_in.ensures
