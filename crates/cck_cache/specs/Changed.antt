-- a file that changed since an entry was recorded
use Rattle.std.specs.Prelude.{◌≡◌, Option, Some, None, string_bytes}
use Rattle.cck_cache.specs.declared.changed.Changed.{Changed}
use Rattle.cck_cache_rules.specs.Changed.{MayHaveDigest}
use Rattle.cck_files.specs.FileDigest.{digest_text_at}
use Rattle.cck_files.specs.FileMap.{FileMap}
use Rattle.cck_path.specs.Bytes.{Bytes}
use Rattle.cck_path.specs.Path.{components}
use Rattle.sha2.specs.Sha256.{sha256}

-- files have contents of this digest at the path
abbrev pub IsChanged : FileMap → Changed → Type 0
IsChanged files changed = digest_text_at sha256 files (components changed.path.items) ≡ Some (string_bytes changed.digest)

-- a result of an entry file of these bytes may match, where this file is known to have changed
abbrev pub MayMatch : Option Changed → Bytes → Type 0
MayMatch None bytes = Unit {0}
MayMatch (Some changed) bytes = MayHaveDigest bytes changed.path.items (string_bytes changed.digest)
