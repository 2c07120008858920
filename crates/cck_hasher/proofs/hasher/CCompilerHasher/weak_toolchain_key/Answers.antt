use Rattle.std.proofs.Common.{◌++◌, ◌∷◌, ◌∙◌, ap, ap₂}
use Rattle.cck_files.specs.FolderText.{lossy}
use Rattle.cck_hasher.specs.Hasher.{toolchain_key}
use Rattle.cck_hasher.proofs.hasher.CCompilerHasher.weak_toolchain_key.Goals as goal

pub returns : goal.returns
unfolding toolchain_key lossy
returns g c =
    c.in_ok-format.ensures.ok
    ∙ ap₂ (λ executable digest. executable ++ 45 ∷ digest) (c.in_ok-executable.ensures.text ∙ ap lossy c.as_slice.ensures.value) c.as_str-digest.ensures.value
