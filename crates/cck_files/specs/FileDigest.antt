-- hex digests of the nodes at paths
use Rattle.std.specs.Prelude.{ℕ, ◌<◌, List, [], ◌∷◌, length, map, take, Option, Some, None, IsSome, Vec, slice_index_or}
use Rattle.std.specs.Global.{Global}
use Rattle.std.specs.Option.{option_map}
use Rattle.cck_digest.specs.Digest.{digest_text}
use Rattle.cck_digest.specs.declared.error.UtilError.{UtilError}
use Rattle.cck_path.specs.Path.{Path, components}
use Rattle.cck_files.specs.FileMap.{FileMap}
use Rattle.cck_files.specs.FolderText.{digest_material}
use Rattle.cck_files.specs.Errors.{IsDigestError}

-- the hex digest of the node at a path, by this hash function, if it has one
unfoldable pub digest_text_at : (List ℕ → List ℕ) → FileMap → Path → Option (List ℕ)
digest_text_at hash fm p = option_map (digest_text hash) (digest_material fm p)

abbrev pub text_and : Option (List ℕ) → Option (List (List ℕ)) → Option (List (List ℕ))
text_and None others = None
text_and (Some t) others = option_map (λ ts. t ∷ ts) others

-- the hex digests of the nodes at these paths, in their order, if each has one
abbrev pub texts : (List ℕ → List ℕ) → FileMap → List Path → Option (List (List ℕ))
texts hash fm [] = Some []
texts hash fm (p ∷ ps) = text_and (digest_text_at hash fm p) (texts hash fm ps)

-- the paths of these texts
abbrev pub paths_of : List (Vec ℕ Global) → List Path
paths_of written = map (λ path. components path.items) written

-- an error for one of these paths, where each path before it has a digest
pub record IsFirstError (hash : List ℕ → List ℕ) (fm : FileMap) (paths : List Path) (HasFault : Type 0) (e : UtilError) : Type 0 where
  pub at : ℕ
  pub within : at < length paths
  pub earlier : IsSome (texts hash fm (take at paths))
  pub cause : IsDigestError fm (slice_index_or paths at []) HasFault e
