-- the key of a toolchain
use Rattle.std.specs.Prelude.{◌∷◌, ◌++◌}
use Rattle.cck_files.specs.FolderText.{lossy}
use Rattle.cck_path.specs.Bytes.{Bytes}

-- a path as text, a `-` and a digest
unfoldable pub toolchain_key : Bytes → Bytes → Bytes
toolchain_key executable digest = lossy executable ++ 45 ∷ digest
