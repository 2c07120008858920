-- The hex digest of an executable.
use Rattle.std.proofs.Common.{◌≡◌, ◌++◌, Bor, Option, None, Some, sym, ap, ◌∙◌}
use Rattle.std.specs.Option.{option_map, option_map_or}
use Rattle.cck_digest.specs.Digest.{digest_text}
use Rattle.cck_files.specs.FileDigest.{digest_text_at}
use Rattle.cck_files.specs.FileMap.{FileMap}
use Rattle.cck_path.specs.Bytes.{Bytes}
use Rattle.cck_path.specs.Path.{Path}
use Rattle.c_cache_keys.specs.CCompiler.{executable_text}

module _ (hash : Bytes → Bytes) (version : Option Bytes) (m : FileMap) (p : Path) (text : Bytes) (at : digest_text_at hash m p ≡ Some text) (claim : Option (Bor Bytes)) (tells : option_map (λ v. v.now) claim ≡ version) where
  by_known_path : executable_text hash version m p ≡ Some (option_map_or (λ v. digest_text hash (text ++ v)) (option_map (λ (v : Bor Bytes). v.now) claim) text)
  unfolding executable_text
  by_known_path =
      ap (option_map (λ t. option_map_or (λ v. digest_text hash (t ++ v)) version t)) at
      ∙ ap (λ o. Some (option_map_or (λ v. digest_text hash (text ++ v)) o text)) (sym tells)

  -- there is a version
  pub with_version : (v : Bor Bytes) (digest : Bytes) → claim ≡ Some v → digest ≡ digest_text hash (text ++ v.now) → executable_text hash version m p ≡ Some digest
  with_version v digest is made = by_known_path ∙ ap (λ o. Some (option_map_or (λ w. digest_text hash (text ++ w)) (option_map (λ (w : Bor Bytes). w.now) o) text)) is ∙ ap Some (sym made)

  -- there is none
  pub without_version : (digest : Bytes) → claim ≡ None → digest ≡ text → executable_text hash version m p ≡ Some digest
  without_version digest is same = by_known_path ∙ ap (λ o. Some (option_map_or (λ w. digest_text hash (text ++ w)) (option_map (λ (w : Bor Bytes). w.now) o) text)) is ∙ ap Some (sym same)
